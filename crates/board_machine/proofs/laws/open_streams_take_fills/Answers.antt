use Rattle.board_machine.proofs.Quiet.{open_takes_fills}
use Rattle.board_machine.proofs.laws.open_streams_take_fills.Goals as goal

pub returns : goal.returns
returns c = open_takes_fills
