use Rattle.board_machine.proofs.Runs.{stands_lists}
use Rattle.board_machine.proofs.laws.histories_grow_by_lists.Goals as goal

pub returns : goal.returns
returns c = stands_lists
