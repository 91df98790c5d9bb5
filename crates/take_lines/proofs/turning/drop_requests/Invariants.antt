use Rattle.std.proofs.Common.{◌≡◌, length}
use Rattle.acq_core.specs.Waiting.{waiting_fills, waiting_requests}
use Rattle.acq_core.specs.Receiver.{KeepsBlocks}
use Rattle.take_lines.proofs.turning.drop_requests.Given as goal

abbrev pub invariant-requests : goal.invariant-requests
invariant-requests l = record { fills : waiting_fills l.acq ≡ waiting_fills l.fn.acq; rest : KeepsBlocks l.fn.acq l.acq }

abbrev pub decreases-requests : goal.decreases-requests
decreases-requests l = length (waiting_requests l.acq)
