use Rattle.live_promises.proofs.Keeping.{live_runs_keep}
use Rattle.live_promises.proofs.laws.live_runs_keep_promises.Goals as goal

pub returns : goal.returns
returns c = live_runs_keep
