use Rattle.acquisition_machine.proofs.Window.{bound_never_falls}
use Rattle.acquisition_machine.proofs.laws.bound_never_falls.Goals as goal

pub returns : goal.returns
returns c = bound_never_falls
