use Rattle.std.proofs.Common.{◌+◌, ◌-◌, ◌≤◌}
use Rattle.acq_core.specs.Either.{in_either}
use Rattle.acq_core.proofs.RangeLemmas.{AllTrue}
use Rattle.acq_core.proofs.gaps.next_range.Given as goal

abbrev pub invariant-loop-first : goal.invariant-loop-first
invariant-loop-first l = (l.from ≤ l.at) × (l.at ≤ l.top) × AllTrue (in_either l.kept l.refused) l.from l.at

abbrev pub decreases-loop-first : goal.decreases-loop-first
decreases-loop-first l = l.top + 1 - l.at
