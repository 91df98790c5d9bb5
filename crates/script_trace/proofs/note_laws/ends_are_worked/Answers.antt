use Rattle.script_trace.proofs.WorkedEnds.{ends_are_worked}
use Rattle.script_trace.proofs.note_laws.ends_are_worked.Goals as goal

pub returns : goal.returns
returns c = ends_are_worked
