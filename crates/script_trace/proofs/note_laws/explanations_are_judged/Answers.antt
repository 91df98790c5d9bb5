use Rattle.script_trace.proofs.Reports.{explanations_are_judged}
use Rattle.script_trace.proofs.note_laws.explanations_are_judged.Goals as goal

pub returns : goal.returns
returns c = explanations_are_judged
