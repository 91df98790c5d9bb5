use Rattle.board_machine.proofs.Forms.{prefix_cases}
use Rattle.board_machine.proofs.laws.runs_are_owned.Goals as goal

pub returns : goal.returns
returns c = prefix_cases
