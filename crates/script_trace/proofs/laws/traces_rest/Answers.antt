use Rattle.script_trace.proofs.Between.{traces_rest}
use Rattle.script_trace.proofs.laws.traces_rest.Goals as goal

pub returns : goal.returns
returns c = traces_rest
