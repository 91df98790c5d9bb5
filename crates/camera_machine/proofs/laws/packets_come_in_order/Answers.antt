use Rattle.camera_machine.proofs.Order.{in_order}
use Rattle.camera_machine.proofs.laws.packets_come_in_order.Goals as goal

pub returns : goal.returns
returns c = in_order
