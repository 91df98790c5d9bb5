use Rattle.board_machine.proofs.Ended.{join_ends}
use Rattle.board_machine.proofs.laws.joins_end_actors.Goals as goal

pub returns : goal.returns
returns c = join_ends
