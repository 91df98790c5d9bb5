use Rattle.live_promises.proofs.ReceiveKeeping.{runs_keep}
use Rattle.live_promises.proofs.receive_laws.frames_runs_keep_promises.Goals as goal

pub returns : goal.returns
returns c = runs_keep
