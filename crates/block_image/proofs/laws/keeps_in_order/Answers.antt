use Rattle.block_image.proofs.KeptLawLemmas.{keeps_in_order}
use Rattle.block_image.proofs.laws.keeps_in_order.Goals as goal

pub returns : goal.returns
returns c = keeps_in_order
