use Rattle.std.proofs.Common.{◌≡◌}
use Rattle.gev_lanes.proofs.line.Line.give_quietly.Given as goal

abbrev pub invariant-tries : goal.invariant-tries
invariant-tries g l = record { giver : l.giver ≡ l.fn.giver; kept : l.kept ≡ l.fn.item }
