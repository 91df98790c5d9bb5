use Rattle.block_assembly.proofs.VerdictLemmas.{verdicts_tell}
use Rattle.block_assembly.proofs.laws.verdicts_tell.Goals as goal

pub returns : goal.returns
returns c = verdicts_tell
