use Rattle.std.proofs.Common.{◌-◌, ◌≤◌}
use Rattle.packet_bitmap.proofs.SearchLemmas.{HasNone}
use Rattle.packet_bitmap.proofs.words.first_with.Given as goal

abbrev pub invariant-loop-at : goal.invariant-loop-at
invariant-loop-at l = (l.from ≤ l.at) × HasNone l.words l.wanted l.from l.at

abbrev pub decreases-loop-at : goal.decreases-loop-at
decreases-loop-at l = l.limit - l.at
