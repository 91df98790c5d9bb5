use Rattle.gvcp_wire.proofs.Pendings.{reads_pending}
use Rattle.gvcp_wire.proofs.body_laws.pending_reading_is_the_relation.Goals as goal

pub returns : goal.returns
returns c = reads_pending
