use Rattle.std.proofs.Common.{vec_len}
use Rattle.acq_core.proofs.Settling.{Settling}
use Rattle.acq_core.proofs.retiring.settle.Given as goal

abbrev pub invariant-loop-cause : goal.invariant-loop-cause
invariant-loop-cause l = Settling l.initial.window l.window

abbrev pub decreases-loop-cause : goal.decreases-loop-cause
decreases-loop-cause l = vec_len l.window.slots
