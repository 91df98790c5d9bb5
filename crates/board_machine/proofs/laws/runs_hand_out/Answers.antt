use Rattle.board_machine.proofs.Handed.{run_hands_out}
use Rattle.board_machine.proofs.laws.runs_hand_out.Goals as goal

pub returns : goal.returns
returns c = run_hands_out
