use Rattle.camera_reader.proofs.Unasked.{nothing_is_asked}
use Rattle.camera_reader.proofs.laws.nothing_is_asked.Goals as goal

pub returns : goal.returns
returns c = nothing_is_asked
