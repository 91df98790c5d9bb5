use Rattle.script_trace.proofs.Accounts.{scripts_are_accounted}
use Rattle.script_trace.proofs.note_laws.scripts_are_accounted.Goals as goal

pub returns : goal.returns
returns c = scripts_are_accounted
