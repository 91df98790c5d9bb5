-- The turn of what its calls gave.
use Rattle.std.proofs.Common.{ℕ, List, Option, subst, ◌∙◌}
use Rattle.acq_core.specs.Receiver.{config_of, Stands}
use Rattle.acq_core.specs.Waiting.{waiting_requests}
use Rattle.gev_acq.specs.Turning.{ServesTurn}
use Rattle.gev_acq.proofs.OneTurn.{failed_is_lost}
use Rattle.camera_reader.proofs.OneTurn.{takes_one}
use Rattle.camera_reader.proofs.taking.hear_once.Goals as goal

pub returns-clause-takes : goal.returns-clause-takes
returns-clause-takes g c =
    takes_one c.args.words.mode (config_of c.args.acq.now) c.args.words.ids c.args.words.camera (Stands c.args.acq.now) (Stands c.serve_turn.new.acq) (Stands c.send_requests-failed.new.acq)
    c.args.state.now.clock c.tell-told.new.self _ _ _ _ (g.L.Link.received c.args.host.now.stream) (g.L.Link.received c.receive-received.new.stream) (g.M.Link.received c.args.host.now.control)
    (g.M.Link.received c.send_requests-failed.new.control) (g.M.Link.received c.client_turn-end.new.control) (g.M.Link.sent c.args.host.now.control)
    (g.M.Link.sent c.send_requests-failed.new.control) (g.M.Link.sent c.client_turn-end.new.control) (g.C.Clock.told c.args.host.now.clock)
    (g.C.Clock.told c.now-moment.new.self) c.args.host.now.client c.client_turn-end.new.client _ _ c.serve_turn.result _ c.tell-told.result _
    c.has_failed-lost.result c.send_requests-failed.result c.client_turn-end.result c.args.pass.now c.serve_turn.new.pass
    c.receive-received.ensures.hears c.now-moment.ensures.told c.tell-told.ensures.told c.tell-told.ensures.read
    (λ gone. c.has_failed-lost.ensures ∙ failed_is_lost _ _ gone)
    (subst (λ (x : Option (List ℕ)). ServesTurn c.args.words.mode (config_of c.args.acq.now) (Stands c.args.acq.now) (Stands c.serve_turn.new.acq) x c.tell-told.result
    c.serve_turn.result (waiting_requests c.serve_turn.new.acq) c.args.pass.now c.serve_turn.new.pass) c.bytes_of-bytes.ensures c.serve_turn.ensures.serves)
    c.send_requests-failed.ensures.rest.stands c.send_requests-failed.ensures.sends
    c.send_requests-failed.ensures.received c.client_turn-end.ensures.turn
