use Rattle.board_calls.proofs.Splits.{split}
use Rattle.board_calls.proofs.laws.each_removed_is_one.Goals as goal

pub returns : goal.returns
returns c = split
