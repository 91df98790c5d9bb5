use Rattle.world_laws.proofs.Runs.{soak_applies}
use Rattle.world_laws.proofs.laws.soak_is_an_application.Goals as goal

pub returns : goal.returns
returns c = soak_applies
