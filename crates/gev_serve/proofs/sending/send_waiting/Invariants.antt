use Rattle.std.proofs.Common.{length}
use Rattle.camera_machine.specs.Stream.{all_waiting}
use Rattle.gev_serve.specs.Wires.{wire}
use Rattle.gev_serve.specs.Sending.{IsSending}
use Rattle.gev_serve.proofs.sending.send_waiting.Given as goal

abbrev pub invariant-packets : goal.invariant-packets
invariant-packets g l =
    IsSending l.fn.camera l.camera (wire (g.L.Link.received l.fn.link) (g.L.Link.sent l.fn.link) (g.L.Link.faults l.fn.link))
    (wire (g.L.Link.received l.link) (g.L.Link.sent l.link) (g.L.Link.faults l.link))

abbrev pub decreases-packets : goal.decreases-packets
decreases-packets g l = length (all_waiting l.camera.waiting)
