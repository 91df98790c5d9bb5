use Rattle.lossy_queue.proofs.Puts.{puts_one}
use Rattle.lossy_queue.proofs.laws.puts_one_datagram.Goals as goal

pub returns : goal.returns
returns c = puts_one
