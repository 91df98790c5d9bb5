use Rattle.frame_pictures.proofs.Truth.{held_frames_are_shown}
use Rattle.frame_pictures.proofs.laws.held_frames_are_shown.Goals as goal

pub returns : goal.returns
returns c = held_frames_are_shown
