use Rattle.world_machine.proofs.WholeRounds.{hears_given}
use Rattle.world_machine.proofs.laws.host_hears_what_the_camera_gave.Goals as goal

pub returns : goal.returns
returns g c = hears_given
