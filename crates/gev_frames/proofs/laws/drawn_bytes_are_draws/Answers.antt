use Rattle.gev_frames.proofs.Draws.{length-noise, get_or-noise}
use Rattle.gev_frames.proofs.laws.drawn_bytes_are_draws.Goals as goal

pub returns : goal.returns
returns c = λ count x. record { count_is = length-noise count x; byte_is = get_or-noise count x }
