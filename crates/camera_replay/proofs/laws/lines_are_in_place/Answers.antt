use Rattle.camera_replay.proofs.InPlace.{in_place}
use Rattle.camera_replay.proofs.laws.lines_are_in_place.Goals as goal

pub returns : goal.returns
returns c = in_place
