use Rattle.board_machine.proofs.Rising.{run_rises}
use Rattle.board_machine.proofs.laws.places_rise.Goals as goal

pub returns : goal.returns
returns c = run_rises
