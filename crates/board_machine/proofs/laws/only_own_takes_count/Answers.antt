use Rattle.board_machine.proofs.Handed.{taken_stays}
use Rattle.board_machine.proofs.laws.only_own_takes_count.Goals as goal

pub returns : goal.returns
returns c = taken_stays
