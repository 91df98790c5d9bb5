use Rattle.block_image.proofs.OneBlockLemmas.{complete_is_frame}
use Rattle.block_image.proofs.laws.complete_is_frame.Goals as goal

pub returns : goal.returns
returns c = complete_is_frame
