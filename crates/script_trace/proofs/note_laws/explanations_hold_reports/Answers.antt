use Rattle.script_trace.proofs.Reports.{explanations_hold_reports}
use Rattle.script_trace.proofs.note_laws.explanations_hold_reports.Goals as goal

pub returns : goal.returns
returns c = explanations_hold_reports
