use Rattle.gev_lanes.proofs.Keeps.{gives, finds}
use Rattle.gev_lanes.proofs.line.Line.push.Goals as goal

pub push_as-requires-clause-rule : goal.push_as-requires-clause-rule
push_as-requires-clause-rule g c = (gives _ _ _ _ c.giver.invariant.1, finds _ _)
