use Rattle.soak_receiver.proofs.Hosts.{stands_first}
use Rattle.soak_receiver.proofs.receiver.SoakReceiver.new.Goals as goal

pub returns : goal.returns
returns c = stands_first c.in_ok-running.running c.in_ok-running.ensures
