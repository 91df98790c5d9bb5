use Rattle.acquisition_machine.proofs.Causes.{causes_are_true}
use Rattle.acquisition_machine.proofs.laws.causes_are_true.Goals as goal

pub returns : goal.returns
returns c = causes_are_true
