use Rattle.board_machine.proofs.Actors.{unborn_nothing}
use Rattle.board_machine.proofs.laws.unborn_actors_do_nothing.Goals as goal

pub returns : goal.returns
returns c = unborn_nothing
