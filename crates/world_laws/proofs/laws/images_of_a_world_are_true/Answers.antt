use Rattle.world_laws.proofs.Images.{images_true}
use Rattle.world_laws.proofs.laws.images_of_a_world_are_true.Goals as goal

pub returns : goal.returns
returns c = images_true
