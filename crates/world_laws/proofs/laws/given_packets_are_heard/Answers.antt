use Rattle.world_laws.proofs.Images.{given_heard}
use Rattle.world_laws.proofs.laws.given_packets_are_heard.Goals as goal

pub returns : goal.returns
returns c = given_heard
