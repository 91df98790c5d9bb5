-- Either of the two lowest bits tells that a camera is controlled.
use Rattle.std.proofs.Common.{refl}
use Rattle.camera_control.proofs.making.is_held.Goals as goal

pub returns : goal.returns
returns c = refl
