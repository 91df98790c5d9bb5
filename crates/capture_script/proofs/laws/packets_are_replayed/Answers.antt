use Rattle.capture_script.proofs.Replayed.{packets_are_replayed}
use Rattle.capture_script.proofs.laws.packets_are_replayed.Goals as goal

pub returns : goal.returns
returns c = packets_are_replayed
