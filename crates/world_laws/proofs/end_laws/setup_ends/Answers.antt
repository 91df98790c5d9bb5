use Rattle.world_laws.proofs.SetupRounds.{setup_ends}
use Rattle.world_laws.proofs.end_laws.setup_ends.Goals as goal

pub returns : goal.returns
returns g c = setup_ends
