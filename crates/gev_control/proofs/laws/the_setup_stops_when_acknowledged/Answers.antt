use Rattle.gev_control.proofs.Acks.{stops_acknowledged}
use Rattle.gev_control.proofs.laws.the_setup_stops_when_acknowledged.Goals as goal

pub returns : goal.returns
returns c = stops_acknowledged
