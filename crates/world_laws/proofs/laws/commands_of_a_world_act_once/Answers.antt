use Rattle.world_laws.proofs.Worlds.{commands_once}
use Rattle.world_laws.proofs.laws.commands_of_a_world_act_once.Goals as goal

pub returns : goal.returns
returns c = commands_once
