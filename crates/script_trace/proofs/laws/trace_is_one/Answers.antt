use Rattle.script_trace.proofs.OneReport.{trace_one}
use Rattle.script_trace.proofs.laws.trace_is_one.Goals as goal

pub returns : goal.returns
returns c = trace_one
