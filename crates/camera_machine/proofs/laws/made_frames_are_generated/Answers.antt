use Rattle.camera_machine.proofs.Sending.{frames_are}
use Rattle.camera_machine.proofs.laws.made_frames_are_generated.Goals as goal

pub returns : goal.returns
returns c = frames_are
