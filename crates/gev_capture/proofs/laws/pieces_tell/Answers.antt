use Rattle.gev_capture.proofs.Pieces.{pieces_tell}
use Rattle.gev_capture.proofs.laws.pieces_tell.Goals as goal

pub returns : goal.returns
returns c = pieces_tell
