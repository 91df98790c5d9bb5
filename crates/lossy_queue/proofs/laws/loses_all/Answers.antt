use Rattle.lossy_queue.proofs.Puts.{none_comes}
use Rattle.lossy_queue.proofs.laws.loses_all.Goals as goal

pub returns : goal.returns
returns c = none_comes
