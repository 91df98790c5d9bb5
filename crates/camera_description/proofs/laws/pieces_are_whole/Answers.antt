use Rattle.camera_description.proofs.Whole.{whole}
use Rattle.camera_description.proofs.laws.pieces_are_whole.Goals as goal

pub returns : goal.returns
returns c = whole
