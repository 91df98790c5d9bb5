use Rattle.gvcp_wire.proofs.Answers.{reads_ack}
use Rattle.gvcp_wire.proofs.laws.ack_reading_is_the_relation.Goals as goal

pub returns : goal.returns
returns c = reads_ack
