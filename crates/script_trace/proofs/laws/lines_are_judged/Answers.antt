use Rattle.script_trace.proofs.Scripts.{lines_judged}
use Rattle.script_trace.proofs.laws.lines_are_judged.Goals as goal

pub returns : goal.returns
returns c = lines_judged
