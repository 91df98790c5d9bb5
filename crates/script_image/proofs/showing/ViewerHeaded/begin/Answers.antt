use Rattle.script_image.proofs.Stepping.{first_as}
use Rattle.script_image.proofs.showing.ViewerHeaded.begin.Goals as goal

pub returns-clause-ran : goal.returns-clause-ran
returns-clause-ran c n = first_as c.in_ok-first_line.field-0 c.args.line.now c.in_ok-first_line.ensures
