use Rattle.board_machine.proofs.Rising.{run_claims}
use Rattle.board_machine.proofs.laws.claims_are_lowest.Goals as goal

pub returns : goal.returns
returns c = run_claims
