use Rattle.world_machine.proofs.WholeRounds.{act_once}
use Rattle.world_machine.proofs.laws.commands_of_a_run_act_once.Goals as goal

pub returns : goal.returns
returns g c = act_once
