use Rattle.board_machine.proofs.Forms.{both_forms}
use Rattle.board_machine.proofs.laws.owners_are_counted.Goals as goal

pub returns : goal.returns
returns c = both_forms
