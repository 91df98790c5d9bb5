use Rattle.board_machine.proofs.Runs.{stands_push}
use Rattle.board_machine.proofs.laws.histories_grow.Goals as goal

pub returns : goal.returns
returns c = stands_push
