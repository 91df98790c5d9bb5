use Rattle.gev_script.proofs.LineKinds.{has_kinds}
use Rattle.gev_script.proofs.laws.kinds_of_lines.Goals as goal

pub returns : goal.returns
returns c = has_kinds
