use Rattle.script_trace.proofs.Alike.{run_alike}
use Rattle.script_trace.proofs.standard_laws.narrowed_scripts_run_alike.Goals as goal

pub returns : goal.returns
returns c = run_alike
