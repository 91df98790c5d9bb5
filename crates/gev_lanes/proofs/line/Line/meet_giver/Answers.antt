use Rattle.std.proofs.Common.{rules}
use Rattle.gev_lanes.proofs.Keeps.{with_giver, totals}
use Rattle.gev_lanes.proofs.line.Line.meet_giver.Goals as goal

pub absorb-requires-clause-rule : goal.absorb-requires-clause-rule
absorb-requires-clause-rule g c = with_giver _ _ _ _ c.taker.invariant.1 c.giver.invariant.1

pub learn_as-requires-clause-rule : goal.learn_as-requires-clause-rule
learn_as-requires-clause-rule g c = totals _ _ (search rules) (search rules)
