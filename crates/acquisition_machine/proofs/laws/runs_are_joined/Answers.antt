use Rattle.acquisition_machine.proofs.Joining.{runs_are_joined}
use Rattle.acquisition_machine.proofs.laws.runs_are_joined.Goals as goal

pub returns : goal.returns
returns c = runs_are_joined
