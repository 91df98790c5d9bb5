use Rattle.std.proofs.Common.{◌≡◌, length}
use Rattle.acq_core.specs.Receiver.{asked_block}
use Rattle.acq_core.specs.Waiting.{waiting_fills, waiting_requests}
use Rattle.example_programs.proofs.receiving.take_images.Given as goal

abbrev pub invariant-loop-image : goal.invariant-loop-image
invariant-loop-image l =
    (waiting_requests l.acq ≡ waiting_requests l.initial.acq) × (asked_block l.acq ≡ asked_block l.initial.acq)

-- with each turn one image less waits
abbrev pub decreases-loop-image : goal.decreases-loop-image
decreases-loop-image l = length (waiting_fills l.acq)
