use Rattle.board_machine.proofs.Actors.{others_stay}
use Rattle.board_machine.proofs.laws.only_joins_end_actors.Goals as goal

pub returns : goal.returns
returns c = others_stay
