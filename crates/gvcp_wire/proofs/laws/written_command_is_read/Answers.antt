use Rattle.gvcp_wire.proofs.Written.{is_written_command}
use Rattle.gvcp_wire.proofs.laws.written_command_is_read.Goals as goal

pub returns : goal.returns
returns c = is_written_command
