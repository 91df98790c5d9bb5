use Rattle.camera_search.proofs.Once.{each_once}
use Rattle.camera_search.proofs.laws.cameras_are_told_once.Goals as goal

pub returns : goal.returns
returns c = each_once
