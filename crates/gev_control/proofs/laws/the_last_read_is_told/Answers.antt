use Rattle.gev_control.proofs.Tellings.{told_last}
use Rattle.gev_control.proofs.laws.the_last_read_is_told.Goals as goal

pub returns : goal.returns
returns c = told_last
