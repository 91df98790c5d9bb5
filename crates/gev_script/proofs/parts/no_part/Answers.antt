use Rattle.std.proofs.Common.{sym}
use Rattle.gev_script.proofs.Splitting.{none_left-parts}
use Rattle.gev_script.proofs.parts.no_part.Goals as goal

pub returns-in-Some : goal.returns-in-Some
returns-in-Some c = rw c.in-Some.is (sym (none_left-parts c.args.separator c.in-Some.field-0.now))
