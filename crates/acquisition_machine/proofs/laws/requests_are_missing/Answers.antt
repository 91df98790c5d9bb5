use Rattle.acquisition_machine.proofs.Asking.{requests_are_missing}
use Rattle.acquisition_machine.proofs.laws.requests_are_missing.Goals as goal

pub returns : goal.returns
returns c = requests_are_missing
