use Rattle.gev_record.proofs.Replaying.{recorded_runs_replay}
use Rattle.gev_record.proofs.laws.recorded_runs_replay.Goals as goal

pub returns : goal.returns
returns c = recorded_runs_replay
