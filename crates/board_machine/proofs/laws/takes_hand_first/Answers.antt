use Rattle.board_machine.proofs.Handed.{take_hands}
use Rattle.board_machine.proofs.laws.takes_hand_first.Goals as goal

pub returns : goal.returns
returns c = take_hands
