use Rattle.gev_serve.specs.Wires.{wire}
use Rattle.camera_serving.proofs.Serves.{took_whole}
use Rattle.camera_serving.proofs.turning.make_turn.Goals as goal

pub returns-in-GoesOn : goal.returns-in-GoesOn
returns-in-GoesOn g c =
    took_whole c.args.kind (record { moment = c.now-moment.result; is_quiet = c.is_none.result; block = c.in-GoesOn.block }) c.args.camera.now c.serve_as.new.camera
    (wire (g.L.Link.received c.args.link.now) (g.L.Link.sent c.args.link.now) (g.L.Link.faults c.args.link.now))
    (wire (g.L.Link.received c.recv_within.new.self) (g.L.Link.sent c.recv_within.new.self) (g.L.Link.faults c.recv_within.new.self))
    (wire (g.L.Link.received c.serve_as.new.link) (g.L.Link.sent c.serve_as.new.link) (g.L.Link.faults c.serve_as.new.link))
    (g.C.Clock.told c.args.clock.now) (g.C.Clock.told c.now-moment.new.self) c.in-Ok.came c.recv_within.new.out
    c.in-Ok.ensures.received c.in-Ok.ensures.sent c.in-Ok.ensures.no_fault c.now-moment.ensures.told c.in-GoesOn.ensures.sends
    c.in-GoesOn.ensures.state c.is_none.ensures c.in-GoesOn.ensures.block
