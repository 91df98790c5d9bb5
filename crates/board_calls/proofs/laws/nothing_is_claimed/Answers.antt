use Rattle.board_calls.proofs.Claimed.{nothing_claimed}
use Rattle.board_calls.proofs.laws.nothing_is_claimed.Goals as goal

pub returns : goal.returns
returns c = nothing_claimed
