use Rattle.board_machine.proofs.Runs.{run_in_hand}
use Rattle.board_machine.proofs.laws.hands_hold_places.Goals as goal

pub returns : goal.returns
returns c = run_in_hand
