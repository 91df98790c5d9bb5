use Rattle.gev_types.proofs.Shorter.{fewer_lines}
use Rattle.gev_types.proofs.laws.fewer_lines_make_a_smaller_image.Goals as goal

pub returns : goal.returns
returns c = fewer_lines
