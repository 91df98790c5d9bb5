use Rattle.std.proofs.Common.{◌≡◌, ◌++◌, length}
use Rattle.acq_core.specs.Waiting.{waiting_fills, waiting_requests}
use Rattle.acq_core.specs.Receiver.{KeepsBlocks}
use Rattle.soak_receiver.proofs.ticking.add_requests.Given as goal

abbrev pub invariant-loop-bytes : goal.invariant-loop-bytes
invariant-loop-bytes l =
    (l.requests.items ++ waiting_requests l.acq ≡ l.initial.requests.items ++ waiting_requests l.initial.acq)
    × (waiting_fills l.acq ≡ waiting_fills l.initial.acq)
    × KeepsBlocks l.initial.acq l.acq

abbrev pub decreases-loop-bytes : goal.decreases-loop-bytes
decreases-loop-bytes l = length (waiting_requests l.acq)
