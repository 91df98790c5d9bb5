use Rattle.gev_control.proofs.ClientSteps.{are_steps}
use Rattle.gev_control.proofs.laws.turns_of_a_list_are_steps_of_the_client.Goals as goal

pub returns : goal.returns
returns c = are_steps
