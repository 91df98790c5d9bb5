use Rattle.capture_script.proofs.OfCaptures.{captures_are_replayed}
use Rattle.capture_script.proofs.laws.captures_are_replayed.Goals as goal

pub returns : goal.returns
returns c = captures_are_replayed
