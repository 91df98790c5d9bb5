use Rattle.board_machine.proofs.Forms.{keeps_cases}
use Rattle.board_machine.proofs.laws.each_act_keeps_owners.Goals as goal

pub returns : goal.returns
returns c = keeps_cases
