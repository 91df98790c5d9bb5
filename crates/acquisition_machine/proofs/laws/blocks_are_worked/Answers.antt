use Rattle.acquisition_machine.proofs.WorkedRows.{blocks_are_worked}
use Rattle.acquisition_machine.proofs.laws.blocks_are_worked.Goals as goal

pub returns : goal.returns
returns c = blocks_are_worked
