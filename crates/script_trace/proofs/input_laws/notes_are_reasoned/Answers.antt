use Rattle.script_trace.proofs.Reasoned.{notes_are_reasoned}
use Rattle.script_trace.proofs.input_laws.notes_are_reasoned.Goals as goal

pub returns : goal.returns
returns c = notes_are_reasoned
