use Rattle.camera_replay.proofs.Telling.{reports_told}
use Rattle.camera_replay.proofs.laws.reports_are_told.Goals as goal

pub returns : goal.returns
returns c = reports_told
