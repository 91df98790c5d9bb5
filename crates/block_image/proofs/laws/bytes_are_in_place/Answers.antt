use Rattle.block_image.proofs.OneBlockLemmas.{bytes_are_in_place}
use Rattle.block_image.proofs.laws.bytes_are_in_place.Goals as goal

pub returns : goal.returns
returns c = bytes_are_in_place
