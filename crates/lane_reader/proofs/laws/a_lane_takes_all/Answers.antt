use Rattle.lane_reader.proofs.Bringing.{take_all}
use Rattle.lane_reader.proofs.laws.a_lane_takes_all.Goals as goal

pub returns : goal.returns
returns c = take_all
