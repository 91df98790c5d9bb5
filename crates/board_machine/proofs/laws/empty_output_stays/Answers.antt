use Rattle.board_machine.proofs.Quiet.{output_stays}
use Rattle.board_machine.proofs.laws.empty_output_stays.Goals as goal

pub returns : goal.returns
returns c = output_stays
