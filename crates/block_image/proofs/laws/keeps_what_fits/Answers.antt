use Rattle.block_image.proofs.KeptLawLemmas.{keeps_what_fits}
use Rattle.block_image.proofs.laws.keeps_what_fits.Goals as goal

pub returns : goal.returns
returns c = keeps_what_fits
