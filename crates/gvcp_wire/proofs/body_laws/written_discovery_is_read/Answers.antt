use Rattle.gvcp_wire.proofs.BodiesWritten.{writes_discovery}
use Rattle.gvcp_wire.proofs.body_laws.written_discovery_is_read.Goals as goal

pub returns : goal.returns
returns c = writes_discovery
