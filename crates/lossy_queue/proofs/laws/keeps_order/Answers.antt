use Rattle.lossy_queue.proofs.Puts.{in_order}
use Rattle.lossy_queue.proofs.laws.keeps_order.Goals as goal

pub returns : goal.returns
returns c = in_order
