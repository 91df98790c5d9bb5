use Rattle.world_laws.proofs.Runs.{run_is_world}
use Rattle.world_laws.proofs.laws.run_is_a_world.Goals as goal

pub returns : goal.returns
returns g c = run_is_world
