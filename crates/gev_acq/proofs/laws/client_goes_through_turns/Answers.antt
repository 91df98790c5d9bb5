use Rattle.gev_acq.proofs.Filled.{client_goes}
use Rattle.gev_acq.proofs.laws.client_goes_through_turns.Goals as goal

pub returns : goal.returns
returns c = client_goes
