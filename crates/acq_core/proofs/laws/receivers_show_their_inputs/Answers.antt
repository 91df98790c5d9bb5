use Rattle.acq_core.proofs.Receiving.{receivers_show}
use Rattle.acq_core.proofs.laws.receivers_show_their_inputs.Goals as goal

pub returns : goal.returns
returns c = receivers_show
