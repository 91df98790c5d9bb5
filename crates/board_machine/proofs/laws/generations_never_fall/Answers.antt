use Rattle.board_machine.proofs.Generations.{run_renews}
use Rattle.board_machine.proofs.laws.generations_never_fall.Goals as goal

pub returns : goal.returns
returns c = run_renews
