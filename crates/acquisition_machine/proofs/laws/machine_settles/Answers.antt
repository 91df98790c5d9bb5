use Rattle.acquisition_machine.proofs.Counting.{machine_settles}
use Rattle.acquisition_machine.proofs.laws.machine_settles.Goals as goal

pub returns : goal.returns
returns c = machine_settles
