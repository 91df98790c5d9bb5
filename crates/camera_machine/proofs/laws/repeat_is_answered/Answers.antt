use Rattle.camera_machine.proofs.Repeats.{repeat_answered}
use Rattle.camera_machine.proofs.laws.repeat_is_answered.Goals as goal

pub returns : goal.returns
returns c = repeat_answered
