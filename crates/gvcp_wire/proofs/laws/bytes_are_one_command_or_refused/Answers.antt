use Rattle.gvcp_wire.proofs.Commands.{is_one_command}
use Rattle.gvcp_wire.proofs.laws.bytes_are_one_command_or_refused.Goals as goal

pub returns : goal.returns
returns c = is_one_command
