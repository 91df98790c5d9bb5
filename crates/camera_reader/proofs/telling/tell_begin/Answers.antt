use Rattle.acq_core.specs.Receiver.{config_of, Stands}
use Rattle.camera_reader.proofs.Told.{told_begin}
use Rattle.camera_reader.proofs.telling.tell_begin.Goals as goal

pub returns-clause-tells : goal.returns-clause-tells
returns-clause-tells g c =
    told_begin c.args.words.mode (config_of c.args.acq.now) c.args.words.ids c.args.words.camera (Stands c.args.acq.now) (Stands c.serve_turn.new.acq) (Stands c.send_requests.new.acq)
    c.args.begin c.serve_turn.result _ c.send_requests.result (g.M.Link.sent c.args.control.now) (g.M.Link.sent c.send_requests.new.control) c.args.pass.now
    c.serve_turn.new.pass c.serve_turn.ensures.serves c.send_requests.ensures.rest.stands c.send_requests.ensures.sends
