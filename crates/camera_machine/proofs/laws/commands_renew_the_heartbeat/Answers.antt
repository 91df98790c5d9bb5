use Rattle.camera_machine.proofs.Renewing.{commands_renew}
use Rattle.camera_machine.proofs.laws.commands_renew_the_heartbeat.Goals as goal

pub returns : goal.returns
returns c = commands_renew
