use Rattle.gev_lanes.proofs.Keeps.{gives}
use Rattle.gev_lanes.proofs.line.Line.put.Goals as goal

pub try_push_as-requires-clause-rule : goal.try_push_as-requires-clause-rule
try_push_as-requires-clause-rule g c = gives _ _ _ _ c.start.invariant.1
