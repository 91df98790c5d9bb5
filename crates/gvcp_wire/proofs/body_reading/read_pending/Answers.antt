use Rattle.gvcp_wire.specs.Messages.{ack_view}
use Rattle.gvcp_wire.proofs.Pendings.{given_by, none_by}
use Rattle.gvcp_wire.proofs.body_reading.read_pending.Goals as goal

pub returns-clause-given : goal.returns-clause-given
returns-clause-given c = given_by (ack_view c.args.ack.now) c.pending_of.result c.pending_of.ensures

pub returns-clause-none : goal.returns-clause-none
returns-clause-none c = none_by (ack_view c.args.ack.now) c.pending_of.result c.pending_of.ensures
