use Rattle.capture_script.proofs.OfCaptures.{captures_make_scripts}
use Rattle.capture_script.proofs.laws.captures_make_scripts.Goals as goal

pub returns : goal.returns
returns c = captures_make_scripts
