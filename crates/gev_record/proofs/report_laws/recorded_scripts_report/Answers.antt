use Rattle.gev_record.proofs.Reporting.{recorded_scripts_report}
use Rattle.gev_record.proofs.report_laws.recorded_scripts_report.Goals as goal

pub returns : goal.returns
returns c = recorded_scripts_report
