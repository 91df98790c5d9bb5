use Rattle.board_machine.proofs.Quiet.{handed_own}
use Rattle.board_machine.proofs.laws.handed_are_own.Goals as goal

pub returns : goal.returns
returns c = handed_own
