use Rattle.gev_control.proofs.ClientSteps.{are_the_clients}
use Rattle.gev_control.proofs.laws.turns_are_steps_of_the_client.Goals as goal

pub returns : goal.returns
returns c = are_the_clients
