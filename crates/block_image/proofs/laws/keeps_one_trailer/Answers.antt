use Rattle.block_image.proofs.KeptLawLemmas.{keeps_one_trailer}
use Rattle.block_image.proofs.laws.keeps_one_trailer.Goals as goal

pub returns : goal.returns
returns c = keeps_one_trailer
