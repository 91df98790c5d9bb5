use Rattle.gev_script.proofs.Splitting.{parts_none, parts_found}
use Rattle.gev_script.proofs.parts.first_part.Goals as goal

pub returns-in-Some : goal.returns-in-Some
returns-in-Some c = parts_found c.args.separator c.in-Some.place c.args.text.now c.in-Some.ensures

pub returns-in-None : goal.returns-in-None
returns-in-None c = parts_none c.args.separator c.args.text.now c.in-None.ensures
