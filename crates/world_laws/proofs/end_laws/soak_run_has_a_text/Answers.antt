use Rattle.world_laws.proofs.Endings.{has_text}
use Rattle.world_laws.proofs.end_laws.soak_run_has_a_text.Goals as goal

pub returns : goal.returns
returns c = has_text
