use Rattle.camera_machine.proofs.Passing.{control_passes}
use Rattle.camera_machine.proofs.laws.control_passes.Goals as goal

pub returns : goal.returns
returns c = control_passes
