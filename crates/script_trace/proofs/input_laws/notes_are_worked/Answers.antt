use Rattle.script_trace.proofs.Rows.{notes_are_worked}
use Rattle.script_trace.proofs.input_laws.notes_are_worked.Goals as goal

pub returns : goal.returns
returns c = notes_are_worked
