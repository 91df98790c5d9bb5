use Rattle.soak_receiver.proofs.Inputs.{hosts_keep}
use Rattle.soak_receiver.proofs.laws.hosts_keep_promises.Goals as goal

pub returns : goal.returns
returns c = hosts_keep
