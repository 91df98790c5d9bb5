use Rattle.acquisition_machine.proofs.WorkedRows.{times_are_worked}
use Rattle.acquisition_machine.proofs.laws.times_are_worked.Goals as goal

pub returns : goal.returns
returns c = times_are_worked
