use Rattle.acquisition_machine.proofs.Asking.{requests_are_few}
use Rattle.acquisition_machine.proofs.laws.requests_are_few.Goals as goal

pub returns : goal.returns
returns c = requests_are_few
