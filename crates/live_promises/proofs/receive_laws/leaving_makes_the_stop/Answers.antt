use Rattle.live_promises.proofs.Stopping.{leaving_stops}
use Rattle.live_promises.proofs.receive_laws.leaving_makes_the_stop.Goals as goal

pub returns : goal.returns
returns c = leaving_stops
