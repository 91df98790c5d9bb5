use Rattle.script_trace.proofs.Spans.{blocks_are_accounted}
use Rattle.script_trace.proofs.input_laws.blocks_are_accounted.Goals as goal

pub returns : goal.returns
returns c = blocks_are_accounted
