use Rattle.std.proofs.Common.{◌≡◌, length}
use Rattle.acq_core.specs.Waiting.{waiting_fills, waiting_requests}
use Rattle.acq_core.specs.Receiver.{KeepsBlocks}
use Rattle.soak_receiver.proofs.ticking.drop_requests.Given as goal

abbrev pub invariant-loop : goal.invariant-loop
invariant-loop l = (waiting_fills l.acq ≡ waiting_fills l.initial.acq) × KeepsBlocks l.initial.acq l.acq

abbrev pub decreases-loop : goal.decreases-loop
decreases-loop l = length (waiting_requests l.acq)
