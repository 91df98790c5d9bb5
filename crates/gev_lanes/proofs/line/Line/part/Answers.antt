use Rattle.gev_lanes.proofs.Keeps.{forks}
use Rattle.gev_lanes.proofs.line.Line.part.Goals as goal

pub another-taker-requires-clause-rule : goal.another-taker-requires-clause-rule
another-taker-requires-clause-rule g c = forks _ _ c.start.invariant.1 c.start.invariant.2
