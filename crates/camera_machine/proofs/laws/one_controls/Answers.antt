use Rattle.camera_machine.proofs.Renewing.{one_controls}
use Rattle.camera_machine.proofs.laws.one_controls.Goals as goal

pub returns : goal.returns
returns c = one_controls
