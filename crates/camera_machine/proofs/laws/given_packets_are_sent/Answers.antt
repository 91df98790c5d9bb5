use Rattle.camera_machine.proofs.Sending.{packets_sent}
use Rattle.camera_machine.proofs.laws.given_packets_are_sent.Goals as goal

pub returns : goal.returns
returns c = packets_sent
