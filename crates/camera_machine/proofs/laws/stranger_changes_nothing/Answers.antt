use Rattle.camera_machine.proofs.Strangers.{stranger_changes}
use Rattle.camera_machine.proofs.laws.stranger_changes_nothing.Goals as goal

pub returns : goal.returns
returns c = stranger_changes
