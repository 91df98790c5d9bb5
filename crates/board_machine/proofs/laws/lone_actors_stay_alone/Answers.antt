use Rattle.board_machine.proofs.Actors.{alone_on}
use Rattle.board_machine.proofs.laws.lone_actors_stay_alone.Goals as goal

pub returns : goal.returns
returns c = alone_on
