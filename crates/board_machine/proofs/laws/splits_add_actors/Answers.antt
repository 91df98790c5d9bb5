use Rattle.board_machine.proofs.Ended.{split_adds}
use Rattle.board_machine.proofs.laws.splits_add_actors.Goals as goal

pub returns : goal.returns
returns c = split_adds
