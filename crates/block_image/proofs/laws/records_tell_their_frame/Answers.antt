use Rattle.block_image.proofs.OneBlockLemmas.{records_tell_their_frame}
use Rattle.block_image.proofs.laws.records_tell_their_frame.Goals as goal

pub returns : goal.returns
returns c = records_tell_their_frame
