use Rattle.gev_acq.proofs.Filled.{readers_fill}
use Rattle.gev_acq.proofs.laws.readers_fill_the_retired.Goals as goal

pub returns : goal.returns
returns c = readers_fill
