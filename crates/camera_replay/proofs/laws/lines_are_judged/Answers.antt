use Rattle.camera_replay.specs.Judging.{lines_judged}
use Rattle.camera_replay.proofs.laws.lines_are_judged.Goals as goal

pub returns : goal.returns
returns c = lines_judged
