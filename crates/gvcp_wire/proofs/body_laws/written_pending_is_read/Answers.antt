use Rattle.gvcp_wire.proofs.BodiesWritten.{writes_pending}
use Rattle.gvcp_wire.proofs.body_laws.written_pending_is_read.Goals as goal

pub returns : goal.returns
returns c = writes_pending
