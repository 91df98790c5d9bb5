use Rattle.gev_script.proofs.Parsed.{is_line}
use Rattle.gev_script.proofs.parsing.parse_line.Goals as goal

pub returns-clause-is_line : goal.returns-clause-is_line
returns-clause-is_line c = is_line c.args.line.now _ c.requires c.read_line.ensures
