use Rattle.board_machine.proofs.Sizes.{one_size}
use Rattle.board_machine.proofs.laws.one_size_stays.Goals as goal

pub returns : goal.returns
returns c = one_size
