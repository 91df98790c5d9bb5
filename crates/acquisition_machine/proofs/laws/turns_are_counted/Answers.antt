use Rattle.acquisition_machine.proofs.Counting.{turns_are_counted}
use Rattle.acquisition_machine.proofs.laws.turns_are_counted.Goals as goal

pub returns : goal.returns
returns c = turns_are_counted
