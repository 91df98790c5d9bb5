use Rattle.std.proofs.Common.{◌≡◌}
use Rattle.gev_lanes.proofs.line.Line.take_waiting.Given as goal

abbrev pub invariant-tries : goal.invariant-tries
invariant-tries g l = l.taker ≡ l.fn.taker
