use Rattle.gev_acq.proofs.Pacing.{paced_told}
use Rattle.gev_acq.proofs.laws.paced_tells_its_clock.Goals as goal

pub returns : goal.returns
returns c = paced_told
