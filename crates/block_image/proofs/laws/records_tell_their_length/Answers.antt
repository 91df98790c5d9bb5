use Rattle.block_image.proofs.Infos.{records_tell_their_length}
use Rattle.block_image.proofs.laws.records_tell_their_length.Goals as goal

pub returns : goal.returns
returns c = records_tell_their_length
