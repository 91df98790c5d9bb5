use Rattle.script_trace.proofs.LinesGo.{lines_have_a_trace}
use Rattle.script_trace.proofs.laws.lines_have_a_trace.Goals as goal

pub returns : goal.returns
returns c = lines_have_a_trace
