use Rattle.board_machine.proofs.Actors.{others_leave}
use Rattle.board_machine.proofs.laws.others_leave_hands.Goals as goal

pub returns : goal.returns
returns c = others_leave
