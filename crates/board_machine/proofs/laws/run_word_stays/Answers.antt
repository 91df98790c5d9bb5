use Rattle.board_machine.proofs.Quiet.{run_stays}
use Rattle.board_machine.proofs.laws.run_word_stays.Goals as goal

pub returns : goal.returns
returns c = run_stays
