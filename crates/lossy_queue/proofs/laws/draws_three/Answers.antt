use Rattle.lossy_queue.proofs.Puts.{draws_three}
use Rattle.lossy_queue.proofs.laws.draws_three.Goals as goal

pub returns : goal.returns
returns c = draws_three
