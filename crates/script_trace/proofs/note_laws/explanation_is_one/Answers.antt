use Rattle.script_trace.proofs.OneExplanation.{explanation_one}
use Rattle.script_trace.proofs.note_laws.explanation_is_one.Goals as goal

pub returns : goal.returns
returns c = explanation_one
