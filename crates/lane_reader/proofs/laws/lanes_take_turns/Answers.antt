use Rattle.lane_reader.proofs.Bringing.{take_turns}
use Rattle.lane_reader.proofs.laws.lanes_take_turns.Goals as goal

pub returns : goal.returns
returns c = take_turns
