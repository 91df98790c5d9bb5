use Rattle.camera_reader.proofs.Steps.{cuts_steps}
use Rattle.camera_reader.proofs.laws.receiver_clock_cuts_steps.Goals as goal

pub returns : goal.returns
returns c = cuts_steps
