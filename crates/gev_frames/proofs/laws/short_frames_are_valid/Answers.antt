use Rattle.gev_frames.proofs.Draws.{short_is_frame, drawn_all}
use Rattle.gev_frames.proofs.laws.short_frames_are_valid.Goals as goal

pub returns : goal.returns
returns c = λ seed block shape. record { valid = short_is_frame seed block shape; whole = drawn_all seed block shape }
