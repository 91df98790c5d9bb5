use Rattle.client_machine.proofs.Ends.{ends_exact}
use Rattle.client_machine.proofs.laws.outcomes_that_end_a_command_are_exact.Goals as goal

pub returns : goal.returns
returns c = ends_exact
