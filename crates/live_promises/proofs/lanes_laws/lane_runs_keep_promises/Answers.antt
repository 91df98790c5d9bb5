use Rattle.live_promises.proofs.LanesKeeping.{lane_runs_keep}
use Rattle.live_promises.proofs.lanes_laws.lane_runs_keep_promises.Goals as goal

pub returns : goal.returns
returns c = lane_runs_keep
