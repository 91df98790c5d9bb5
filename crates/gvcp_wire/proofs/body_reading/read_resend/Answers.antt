use Rattle.gvcp_wire.proofs.Resends.{given_by, none_by}
use Rattle.gvcp_wire.proofs.body_reading.read_resend.Goals as goal

pub returns-clause-given : goal.returns-clause-given
returns-clause-given c = given_by c.args.head c.args.body.now c.resend_of.result c.resend_of.ensures

pub returns-clause-none : goal.returns-clause-none
returns-clause-none c = none_by c.args.head c.args.body.now c.resend_of.result c.resend_of.ensures
