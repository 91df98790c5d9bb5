use Rattle.board_calls.proofs.Among.{claims_take_oldest}
use Rattle.board_calls.proofs.laws.claims_take_oldest.Goals as goal

pub returns : goal.returns
returns c = claims_take_oldest
