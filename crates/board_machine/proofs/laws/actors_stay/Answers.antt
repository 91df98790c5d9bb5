use Rattle.board_machine.proofs.Actors.{actors_stay}
use Rattle.board_machine.proofs.laws.actors_stay.Goals as goal

pub returns : goal.returns
returns c = actors_stay
