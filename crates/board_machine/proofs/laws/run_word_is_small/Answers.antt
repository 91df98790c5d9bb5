use Rattle.board_machine.proofs.RunWord.{run_small}
use Rattle.board_machine.proofs.laws.run_word_is_small.Goals as goal

pub returns : goal.returns
returns c = run_small
