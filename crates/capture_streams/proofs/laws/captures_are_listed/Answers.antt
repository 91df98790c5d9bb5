use Rattle.capture_streams.proofs.Rows.{captures_are_listed}
use Rattle.capture_streams.proofs.laws.captures_are_listed.Goals as goal

pub returns : goal.returns
returns c = captures_are_listed
