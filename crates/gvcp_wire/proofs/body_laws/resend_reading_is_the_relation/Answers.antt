use Rattle.gvcp_wire.proofs.Resends.{reads_resend}
use Rattle.gvcp_wire.proofs.body_laws.resend_reading_is_the_relation.Goals as goal

pub returns : goal.returns
returns c = reads_resend
