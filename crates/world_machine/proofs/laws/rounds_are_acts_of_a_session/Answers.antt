use Rattle.world_machine.proofs.WholeRounds.{rounds_are_acts}
use Rattle.world_machine.proofs.laws.rounds_are_acts_of_a_session.Goals as goal

pub returns : goal.returns
returns g c = rounds_are_acts
