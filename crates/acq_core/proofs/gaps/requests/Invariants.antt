use Rattle.std.proofs.Common.{◌≡◌, ◌+◌, ◌-◌, ◌≤◌, length, take}
use Rattle.missing_ranges.specs.Ranges.{holes}
use Rattle.acq_core.specs.Either.{in_either}
use Rattle.acq_core.proofs.RangeLemmas.{filled_up}
use Rattle.acq_core.proofs.gaps.requests.Given as goal

abbrev pub invariant-loop-top : goal.invariant-loop-top
invariant-loop-top l =
    (l.from ≤ l.top) × (filled_up (in_either l.kept l.refused) l.out.items l.from (l.top + 1) ≡ take 8 (holes (in_either l.kept l.refused) 0 (l.top + 1)))

abbrev pub decreases-loop-top : goal.decreases-loop-top
decreases-loop-top l = 8 - length l.out.items
