use Rattle.block_image.proofs.KeptLawLemmas.{keeps_the_first}
use Rattle.block_image.proofs.laws.keeps_the_first.Goals as goal

pub returns : goal.returns
returns c = keeps_the_first
