use Rattle.gev_make.proofs.Made.{made_are_read}
use Rattle.gev_make.proofs.laws.made_lines_are_read.Goals as goal

pub returns : goal.returns
returns c = made_are_read
