use Rattle.gev_control.proofs.Tellings.{told_heartbeat}
use Rattle.gev_control.proofs.laws.heartbeats_are_told.Goals as goal

pub returns : goal.returns
returns c = told_heartbeat
