use Rattle.camera_machine.proofs.Sending.{replies_say}
use Rattle.camera_machine.proofs.laws.replies_say_the_past.Goals as goal

pub returns : goal.returns
returns c = replies_say
