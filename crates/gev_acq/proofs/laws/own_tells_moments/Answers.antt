use Rattle.gev_acq.proofs.Pacing.{own_told}
use Rattle.gev_acq.proofs.laws.own_tells_moments.Goals as goal

pub returns : goal.returns
returns c = own_told
