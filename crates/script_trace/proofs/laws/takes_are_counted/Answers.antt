use Rattle.script_trace.proofs.Counting.{takes_counted}
use Rattle.script_trace.proofs.laws.takes_are_counted.Goals as goal

pub returns : goal.returns
returns c = takes_counted
