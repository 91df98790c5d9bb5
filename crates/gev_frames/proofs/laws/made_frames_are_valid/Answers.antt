use Rattle.gev_frames.proofs.Draws.{made_is_frame}
use Rattle.gev_frames.proofs.laws.made_frames_are_valid.Goals as goal

pub returns : goal.returns
returns c = made_is_frame
