use Rattle.camera_machine.proofs.Sending.{frames_short}
use Rattle.camera_machine.proofs.laws.frames_are_short_as_was_set.Goals as goal

pub returns : goal.returns
returns c = frames_short
