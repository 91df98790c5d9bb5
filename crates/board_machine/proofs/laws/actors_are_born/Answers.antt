use Rattle.board_machine.proofs.Actors.{actors_born}
use Rattle.board_machine.proofs.laws.actors_are_born.Goals as goal

pub returns : goal.returns
returns c = actors_born
