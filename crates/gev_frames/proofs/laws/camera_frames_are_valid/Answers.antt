use Rattle.gev_frames.proofs.Draws.{camera_makes}
use Rattle.gev_frames.proofs.laws.camera_frames_are_valid.Goals as goal

pub returns : goal.returns
returns c = camera_makes
