use Rattle.camera_replay.proofs.OneReport.{report_one}
use Rattle.camera_replay.proofs.laws.report_is_one.Goals as goal

pub returns : goal.returns
returns c = report_one
