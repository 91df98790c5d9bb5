use Rattle.gev_acq.proofs.Filled.{turns_fill}
use Rattle.gev_acq.proofs.laws.turns_fill_the_retired.Goals as goal

pub returns : goal.returns
returns c = turns_fill
