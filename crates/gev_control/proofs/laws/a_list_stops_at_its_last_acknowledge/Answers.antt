use Rattle.gev_control.proofs.Acks.{stops_at_last}
use Rattle.gev_control.proofs.laws.a_list_stops_at_its_last_acknowledge.Goals as goal

pub returns : goal.returns
returns c = stops_at_last
