use Rattle.gev_capture.proofs.OneCapture.{captures_are_one}
use Rattle.gev_capture.proofs.laws.captures_are_one.Goals as goal

pub returns : goal.returns
returns c = captures_are_one
