use Rattle.script_trace.proofs.Worked.{drops_are_worked}
use Rattle.script_trace.proofs.note_laws.drops_are_worked.Goals as goal

pub returns : goal.returns
returns c = drops_are_worked
