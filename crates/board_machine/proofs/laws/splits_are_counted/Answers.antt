use Rattle.board_machine.proofs.Ended.{run_splits}
use Rattle.board_machine.proofs.laws.splits_are_counted.Goals as goal

pub returns : goal.returns
returns c = run_splits
