use Rattle.std.proofs.Common.{◌-◌, length}
use Rattle.acq_core.proofs.Rounding.{RoundsTo}
use Rattle.acq_core.proofs.rounds.ask_all.Given as goal

abbrev pub invariant-loop-at : goal.invariant-loop-at
invariant-loop-at l = RoundsTo l.initial.window l.window l.at

abbrev pub decreases-loop-at : goal.decreases-loop-at
decreases-loop-at l = length l.window.slots.items - l.at
