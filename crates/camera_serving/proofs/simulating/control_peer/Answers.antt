-- The port is that of a control channel.
use Rattle.std.proofs.Common.{refl}
use Rattle.camera_serving.proofs.simulating.control_peer.Goals as goal

pub returns : goal.returns
returns c = refl
