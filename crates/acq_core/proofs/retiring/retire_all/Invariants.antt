use Rattle.std.proofs.Common.{vec_len}
use Rattle.acq_core.proofs.Stopping.{Stopping}
use Rattle.acq_core.proofs.retiring.retire_all.Given as goal

abbrev pub invariant-loop-window : goal.invariant-loop-window
invariant-loop-window l = Stopping l.initial.window l.window

abbrev pub decreases-loop-window : goal.decreases-loop-window
decreases-loop-window l = vec_len l.window.slots
