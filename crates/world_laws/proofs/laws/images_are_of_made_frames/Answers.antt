use Rattle.world_laws.proofs.Images.{images_of_made}
use Rattle.world_laws.proofs.laws.images_are_of_made_frames.Goals as goal

pub returns : goal.returns
returns c = images_of_made
