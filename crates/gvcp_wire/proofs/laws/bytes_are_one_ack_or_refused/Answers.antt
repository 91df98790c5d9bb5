use Rattle.gvcp_wire.proofs.Answers.{is_one_ack}
use Rattle.gvcp_wire.proofs.laws.bytes_are_one_ack_or_refused.Goals as goal

pub returns : goal.returns
returns c = is_one_ack
