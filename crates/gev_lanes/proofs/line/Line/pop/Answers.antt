use Rattle.gev_lanes.proofs.Keeps.{takes, finds}
use Rattle.gev_lanes.proofs.line.Line.pop.Goals as goal

pub pop_as-requires-clause-rule : goal.pop_as-requires-clause-rule
pop_as-requires-clause-rule g c = (takes _ _ c.taker.invariant.1, finds _ _)
