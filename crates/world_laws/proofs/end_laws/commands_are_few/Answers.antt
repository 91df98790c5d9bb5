use Rattle.world_laws.proofs.BeatsRounds.{commands_are_few}
use Rattle.world_laws.proofs.end_laws.commands_are_few.Goals as goal

pub returns : goal.returns
returns g c = commands_are_few
