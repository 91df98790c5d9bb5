use Rattle.board_machine.proofs.Forms.{empty_cases}
use Rattle.board_machine.proofs.laws.empty_board_has_owners.Goals as goal

pub returns : goal.returns
returns c = empty_cases
