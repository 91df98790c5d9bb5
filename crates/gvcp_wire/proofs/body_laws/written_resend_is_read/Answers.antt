use Rattle.gvcp_wire.proofs.BodiesWritten.{writes_resend}
use Rattle.gvcp_wire.proofs.body_laws.written_resend_is_read.Goals as goal

pub returns : goal.returns
returns c = writes_resend
