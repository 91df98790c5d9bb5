use Rattle.gvcp_wire.proofs.Written.{is_written_ack}
use Rattle.gvcp_wire.proofs.laws.written_ack_is_read.Goals as goal

pub returns : goal.returns
returns c = is_written_ack
