use Rattle.gev_lanes.proofs.Keeps.{counts}
use Rattle.gev_lanes.proofs.line.Line.give.Goals as goal

pub another-requires-clause-rule : goal.another-requires-clause-rule
another-requires-clause-rule g c = counts _ _ _ _
