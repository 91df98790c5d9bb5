use Rattle.std.proofs.Common.{◌≡◌}
use Rattle.gev_lanes.proofs.line.Line.rest_while_few.Given as goal

abbrev pub invariant-rests : goal.invariant-rests
invariant-rests g l = l.taker ≡ l.fn.taker
