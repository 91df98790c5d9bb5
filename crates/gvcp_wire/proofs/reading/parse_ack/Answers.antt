use Rattle.gvcp_wire.specs.Reading.{ack_seen}
use Rattle.gvcp_wire.proofs.Answers.{given_by, refused_by}
use Rattle.gvcp_wire.proofs.reading.parse_ack.Goals as goal

pub returns-clause-given : goal.returns-clause-given
returns-clause-given c = given_by c.args.bytes.now (ack_seen c.ack_of.result) c.ack_of.ensures

pub returns-clause-refused : goal.returns-clause-refused
returns-clause-refused c = refused_by c.args.bytes.now (ack_seen c.ack_of.result) c.ack_of.ensures
