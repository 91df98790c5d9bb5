use Rattle.block_image.proofs.Infos.{leaders_tell_images}
use Rattle.block_image.proofs.laws.leaders_tell_images.Goals as goal

pub returns : goal.returns
returns c = leaders_tell_images
