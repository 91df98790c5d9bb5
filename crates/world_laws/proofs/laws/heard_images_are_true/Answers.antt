use Rattle.world_laws.proofs.Images.{heard_images}
use Rattle.world_laws.proofs.laws.heard_images_are_true.Goals as goal

pub returns : goal.returns
returns c = heard_images
