use Rattle.script_trace.proofs.Counts.{counts_are_accounted}
use Rattle.script_trace.proofs.input_laws.counts_are_accounted.Goals as goal

pub returns : goal.returns
returns c = counts_are_accounted
