use Rattle.board_machine.proofs.Actors.{all_by}
use Rattle.board_machine.proofs.laws.entries_are_theirs.Goals as goal

pub returns : goal.returns
returns c = all_by
