use Rattle.board_machine.proofs.Worked.{worked_runs}
use Rattle.board_machine.proofs.laws.worked_history_runs.Goals as goal

pub returns : goal.returns
returns c = worked_runs
