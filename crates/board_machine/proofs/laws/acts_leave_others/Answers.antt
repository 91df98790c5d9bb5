use Rattle.board_machine.proofs.Forms.{leaves_cases}
use Rattle.board_machine.proofs.laws.acts_leave_others.Goals as goal

pub returns : goal.returns
returns c = leaves_cases
