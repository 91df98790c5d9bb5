use Rattle.acquisition_machine.proofs.Asking.{rounds_are_few}
use Rattle.acquisition_machine.proofs.laws.rounds_are_few.Goals as goal

pub returns : goal.returns
returns c = rounds_are_few
