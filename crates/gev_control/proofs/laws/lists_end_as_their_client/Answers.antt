use Rattle.gev_control.proofs.OrderEnds.{ends_as_told}
use Rattle.gev_control.proofs.laws.lists_end_as_their_client.Goals as goal

pub returns : goal.returns
returns c = ends_as_told
