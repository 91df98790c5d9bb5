use Rattle.std.proofs.Common.{◌≡◌, ◌++◌, ◌+◌, ◌≤◌, length}
use Rattle.gev_receive.specs.Starting.{writes_at}
use Rattle.gev_receive.proofs.writes.writes_at.Given as goal

abbrev pub invariant-loop-rest : goal.invariant-loop-rest
invariant-loop-rest l =
    (l.found.items ++ writes_at l.stage l.rest ≡ writes_at l.stage l.fn.wishes) × (length l.found.items + length l.rest ≤ 64)

abbrev pub decreases-loop-rest : goal.decreases-loop-rest
decreases-loop-rest l = length l.rest
