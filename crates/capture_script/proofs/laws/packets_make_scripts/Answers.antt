use Rattle.capture_script.proofs.Whole.{packets_make_scripts}
use Rattle.capture_script.proofs.laws.packets_make_scripts.Goals as goal

pub returns : goal.returns
returns c = packets_make_scripts
