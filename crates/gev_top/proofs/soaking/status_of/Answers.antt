-- A command that had no answer is told as that.
use Rattle.std.proofs.Common.{sym, ap}
use Rattle.gev_top.specs.Soaking.{status_after}
use Rattle.gev_top.proofs.soaking.status_of.Goals as goal

pub returns-in-NoAnswer : goal.returns-in-NoAnswer
returns-in-NoAnswer c = sym (ap status_after c.in-NoAnswer.is)
