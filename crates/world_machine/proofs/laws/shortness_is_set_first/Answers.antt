use Rattle.world_machine.proofs.SetFirst.{shortness_is_set_first}
use Rattle.world_machine.proofs.laws.shortness_is_set_first.Goals as goal

pub returns : goal.returns
returns g c = shortness_is_set_first
