use Rattle.world_machine.proofs.Lines.{acked_executed}
use Rattle.world_machine.proofs.session_laws.acked_commands_were_executed.Goals as goal

pub returns : goal.returns
returns c = acked_executed
