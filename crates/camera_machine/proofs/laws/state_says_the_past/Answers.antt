use Rattle.camera_machine.proofs.Past.{state_says}
use Rattle.camera_machine.proofs.laws.state_says_the_past.Goals as goal

pub returns : goal.returns
returns c = state_says
