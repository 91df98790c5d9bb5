use Rattle.gev_control.proofs.OrderEnds.{ends_as_client}
use Rattle.gev_control.proofs.laws.the_setup_ends_as_its_client.Goals as goal

pub returns : goal.returns
returns c = ends_as_client
