use Rattle.board_machine.proofs.Ended.{ended_run}
use Rattle.board_machine.proofs.laws.ended_actors_do_nothing.Goals as goal

pub returns : goal.returns
returns c = ended_run
