use Rattle.camera_registers.proofs.Order.{accesses_in_order}
use Rattle.camera_registers.proofs.laws.accesses_are_in_order.Goals as goal

pub returns : goal.returns
returns c = accesses_in_order
