use Rattle.gev_acq.proofs.Pacing.{cuts_steps}
use Rattle.gev_acq.proofs.laws.paced_cuts_steps.Goals as goal

pub returns : goal.returns
returns c = cuts_steps
