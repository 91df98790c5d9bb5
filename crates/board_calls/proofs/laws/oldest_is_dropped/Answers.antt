use Rattle.board_calls.proofs.Claimed.{oldest}
use Rattle.board_calls.proofs.laws.oldest_is_dropped.Goals as goal

pub returns : goal.returns
returns c = oldest
