use Rattle.block_image.proofs.KeptLawLemmas.{misses_nothing}
use Rattle.block_image.proofs.laws.misses_nothing.Goals as goal

pub returns : goal.returns
returns c = misses_nothing
