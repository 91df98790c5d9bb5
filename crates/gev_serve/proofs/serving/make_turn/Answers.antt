use Rattle.gev_serve.specs.Wires.{wire}
use Rattle.gev_serve.proofs.Parting.{made_turn}
use Rattle.gev_serve.proofs.serving.make_turn.Goals as goal

pub returns-in-Ok : goal.returns-in-Ok
returns-in-Ok g c = record {
  makes = made_turn c.serve_once.result c.args.camera.now c.serve_once.new.camera
      (wire (g.L.Link.received c.args.link.now) (g.L.Link.sent c.args.link.now) (g.L.Link.faults c.args.link.now))
      (wire (g.L.Link.received c.recv.new.self) (g.L.Link.sent c.recv.new.self) (g.L.Link.faults c.recv.new.self))
      (wire (g.L.Link.received c.serve_once.new.link) (g.L.Link.sent c.serve_once.new.link) (g.L.Link.faults c.serve_once.new.link))
      (g.C.Clock.told c.args.clock.now) (g.C.Clock.told c.now-moment.new.self) c.in-Ok.came c.recv.new.out c.now-moment.result
      c.in-Ok.ensures.received c.in-Ok.ensures.sent c.in-Ok.ensures.no_fault c.now-moment.ensures.told c.serve_once.ensures.sends c.serve_once.ensures.state c.serve_once.ensures.block;
}

pub recv-requires : goal.recv-requires
recv-requires g c = record { room = assumption }
