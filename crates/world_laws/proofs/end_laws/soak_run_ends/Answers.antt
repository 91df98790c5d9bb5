use Rattle.world_laws.proofs.Endings.{run_ends}
use Rattle.world_laws.proofs.end_laws.soak_run_ends.Goals as goal

pub returns : goal.returns
returns c = run_ends
