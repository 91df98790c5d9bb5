use Rattle.lane_reader.proofs.Bringing.{first_cells}
use Rattle.lane_reader.proofs.laws.first_cells_are_brought.Goals as goal

pub returns : goal.returns
returns c = first_cells
