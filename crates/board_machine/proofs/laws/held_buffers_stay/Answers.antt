use Rattle.board_machine.proofs.Sizes.{held_stays}
use Rattle.board_machine.proofs.laws.held_buffers_stay.Goals as goal

pub returns : goal.returns
returns c = held_stays
