use Rattle.camera_control.proofs.Fronts.{steps_in_order}
use Rattle.camera_control.proofs.laws.steps_are_in_order.Goals as goal

pub returns : goal.returns
returns c = steps_in_order
