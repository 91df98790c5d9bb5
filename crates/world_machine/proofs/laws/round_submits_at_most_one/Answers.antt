use Rattle.world_machine.proofs.WholeRounds.{submits_one}
use Rattle.world_machine.proofs.laws.round_submits_at_most_one.Goals as goal

pub returns : goal.returns
returns g c = submits_one
