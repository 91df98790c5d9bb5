use Rattle.script_trace.proofs.Promises.{traces_keep}
use Rattle.script_trace.proofs.laws.traces_keep_promises.Goals as goal

pub returns : goal.returns
returns c = traces_keep
