use Rattle.gev_lanes.proofs.Keeps.{finds}
use Rattle.gev_lanes.proofs.line.Line.waiting.Goals as goal

pub len_as-requires-clause-rule : goal.len_as-requires-clause-rule
len_as-requires-clause-rule g c = finds _ _
