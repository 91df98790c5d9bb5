use Rattle.live_promises.proofs.Telling.{runs_have}
use Rattle.live_promises.proofs.receive_laws.runs_have_histories.Goals as goal

pub returns : goal.returns
returns c = runs_have
