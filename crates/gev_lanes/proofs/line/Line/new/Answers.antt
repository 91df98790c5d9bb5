use Rattle.gev_lanes.proofs.Keeps.{begins}
use Rattle.gev_lanes.proofs.line.Line.new.Goals as goal

pub ruled-requires-clause-rule : goal.ruled-requires-clause-rule
ruled-requires-clause-rule g c = begins
