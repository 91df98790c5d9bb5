use Rattle.frame_pictures.proofs.Truth.{bytes_in_place_are_shown}
use Rattle.frame_pictures.proofs.laws.bytes_in_place_are_shown.Goals as goal

pub returns : goal.returns
returns c = bytes_in_place_are_shown
