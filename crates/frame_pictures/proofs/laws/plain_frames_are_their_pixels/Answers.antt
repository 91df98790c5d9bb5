use Rattle.frame_pictures.proofs.Drawing.{plain_frames_are_their_pixels}
use Rattle.frame_pictures.proofs.laws.plain_frames_are_their_pixels.Goals as goal

pub returns : goal.returns
returns c = plain_frames_are_their_pixels
