use Rattle.acquisition_machine.proofs.Window.{step_sound}
use Rattle.acquisition_machine.proofs.laws.steps_keep_order.Goals as goal

pub returns : goal.returns
returns c = step_sound
