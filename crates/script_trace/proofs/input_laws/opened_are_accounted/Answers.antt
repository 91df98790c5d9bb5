use Rattle.script_trace.proofs.Opened.{opened_are_accounted}
use Rattle.script_trace.proofs.input_laws.opened_are_accounted.Goals as goal

pub returns : goal.returns
returns c = opened_are_accounted
