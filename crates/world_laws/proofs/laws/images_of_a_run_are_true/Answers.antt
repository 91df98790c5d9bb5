use Rattle.world_laws.proofs.Runs.{run_images}
use Rattle.world_laws.proofs.laws.images_of_a_run_are_true.Goals as goal

pub returns : goal.returns
returns g c = run_images
