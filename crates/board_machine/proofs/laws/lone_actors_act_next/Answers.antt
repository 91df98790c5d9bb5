use Rattle.board_machine.proofs.Ended.{alone_run}
use Rattle.board_machine.proofs.laws.lone_actors_act_next.Goals as goal

pub returns : goal.returns
returns c = alone_run
