use Rattle.gvcp_wire.proofs.Commands.{reads_command}
use Rattle.gvcp_wire.proofs.laws.command_reading_is_the_relation.Goals as goal

pub returns : goal.returns
returns c = reads_command
