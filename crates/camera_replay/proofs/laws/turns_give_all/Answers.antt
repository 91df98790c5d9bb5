use Rattle.camera_replay.proofs.Giving.{turns_give}
use Rattle.camera_replay.proofs.laws.turns_give_all.Goals as goal

pub returns : goal.returns
returns c = turns_give
