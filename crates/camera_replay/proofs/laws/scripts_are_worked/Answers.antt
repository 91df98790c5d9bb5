use Rattle.camera_replay.proofs.WorkedScripts.{scripts_worked}
use Rattle.camera_replay.proofs.laws.scripts_are_worked.Goals as goal

pub returns : goal.returns
returns c = scripts_worked
