use Rattle.camera_replay.proofs.ToldLines.{scripts_tell}
use Rattle.camera_replay.proofs.laws.scripts_tell.Goals as goal

pub returns : goal.returns
returns c = scripts_tell
