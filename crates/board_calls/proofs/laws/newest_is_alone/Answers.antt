use Rattle.board_calls.proofs.Alone.{newest}
use Rattle.board_calls.proofs.laws.newest_is_alone.Goals as goal

pub returns : goal.returns
returns c = newest
