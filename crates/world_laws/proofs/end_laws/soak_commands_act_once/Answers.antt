use Rattle.world_laws.proofs.Endings.{soak_acts_once}
use Rattle.world_laws.proofs.end_laws.soak_commands_act_once.Goals as goal

pub returns : goal.returns
returns c = soak_acts_once
