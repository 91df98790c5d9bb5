use Rattle.gvcp_wire.specs.Messages.{view}
use Rattle.gvcp_wire.proofs.Written.{is_written_command}
use Rattle.gvcp_wire.proofs.writing.write_command.Goals as goal

pub returns-clause-read_again : goal.returns-clause-read_again
returns-clause-read_again c =
    (is_written_command c.args.head (view c.args.command.now)).read_again c.requires.command
    (record { flags = c.write_header.ensures.flags; code = c.write_header.ensures.code; request = c.write_header.ensures.request; body = c.write_body-len.ensures.widths })
