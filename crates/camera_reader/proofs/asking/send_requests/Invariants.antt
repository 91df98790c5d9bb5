use Rattle.std.proofs.Common.{length}
use Rattle.acq_core.specs.Waiting.{waiting_requests}
use Rattle.camera_reader.proofs.Sendings.{IsSending}
use Rattle.camera_reader.proofs.asking.send_requests.Given as goal

abbrev pub invariant-requests : goal.invariant-requests
invariant-requests g l =
    IsSending l.camera l.ids l.fn.failed (g.M.Link.sent l.fn.control) (g.M.Link.received l.fn.control) (g.M.Link.faults l.fn.control) l.fn.acq
    l.failed (g.M.Link.sent l.control) (g.M.Link.received l.control) (g.M.Link.faults l.control) l.acq

abbrev pub decreases-requests : goal.decreases-requests
decreases-requests g l = length (waiting_requests l.acq)
