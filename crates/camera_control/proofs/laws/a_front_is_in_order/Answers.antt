use Rattle.camera_control.proofs.Fronts.{front_in_order}
use Rattle.camera_control.proofs.laws.a_front_is_in_order.Goals as goal

pub returns : goal.returns
returns c = front_in_order
