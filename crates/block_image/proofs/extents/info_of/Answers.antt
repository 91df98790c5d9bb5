-- What is known of an image is what its leader says.
use Rattle.std.proofs.Common.{refl}
use Rattle.block_image.proofs.extents.info_of.Goals as goal

pub returns : goal.returns
returns c = rw (c.in_ok-info.was, c.rows_of.ensures) refl
