use Rattle.std.proofs.Common.{refl}
use Rattle.camera_control.proofs.laws.commands_are_worked.Goals as goal

pub returns : goal.returns
returns c = record { run = refl; set = refl }
