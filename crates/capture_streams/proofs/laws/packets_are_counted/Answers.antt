use Rattle.capture_streams.proofs.Counted.{packets_are_counted}
use Rattle.capture_streams.proofs.laws.packets_are_counted.Goals as goal

pub returns : goal.returns
returns c = packets_are_counted
