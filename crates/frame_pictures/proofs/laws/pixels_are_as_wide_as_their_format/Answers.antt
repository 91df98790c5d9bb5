use Rattle.frame_pictures.proofs.Widths.{wide_as_format}
use Rattle.frame_pictures.proofs.laws.pixels_are_as_wide_as_their_format.Goals as goal

pub returns : goal.returns
returns c = wide_as_format
