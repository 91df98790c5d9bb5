use Rattle.world_machine.proofs.Texts.{ends_in_a_round}
use Rattle.world_machine.proofs.laws.run_ends_in_a_round.Goals as goal

pub returns : goal.returns
returns g c = ends_in_a_round
