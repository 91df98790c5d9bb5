use Rattle.script_trace.proofs.Changing.{runs_keep}
use Rattle.script_trace.proofs.laws.runs_keep_promises.Goals as goal

pub returns : goal.returns
returns c = runs_keep
