use Rattle.camera_machine.proofs.Repeats.{behind_dropped}
use Rattle.camera_machine.proofs.laws.behind_command_is_dropped.Goals as goal

pub returns : goal.returns
returns c = behind_dropped
