use Rattle.gev_acq.proofs.Filled.{served_fills}
use Rattle.gev_acq.proofs.laws.served_fills_are_retired.Goals as goal

pub returns : goal.returns
returns c = served_fills
