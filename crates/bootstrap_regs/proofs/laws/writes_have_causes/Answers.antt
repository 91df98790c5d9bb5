use Rattle.bootstrap_regs.proofs.Causes.{has_cause}
use Rattle.bootstrap_regs.proofs.laws.writes_have_causes.Goals as goal

pub returns : goal.returns
returns c = has_cause
