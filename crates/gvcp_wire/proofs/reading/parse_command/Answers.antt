use Rattle.gvcp_wire.specs.Reading.{seen}
use Rattle.gvcp_wire.proofs.Commands.{given_by, refused_by}
use Rattle.gvcp_wire.proofs.reading.parse_command.Goals as goal

pub returns-clause-given : goal.returns-clause-given
returns-clause-given c = given_by c.args.bytes.now (seen c.command_of.result) c.command_of.ensures

pub returns-clause-refused : goal.returns-clause-refused
returns-clause-refused c = refused_by c.args.bytes.now (seen c.command_of.result) c.command_of.ensures
