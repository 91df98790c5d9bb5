use Rattle.board_machine.proofs.Handouts.{run_legal}
use Rattle.board_machine.proofs.laws.runs_are_legal.Goals as goal

pub returns : goal.returns
returns c = run_legal
