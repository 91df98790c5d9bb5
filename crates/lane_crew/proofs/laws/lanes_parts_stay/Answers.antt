use Rattle.lane_crew.proofs.Staying.{lanes_stay}
use Rattle.lane_crew.proofs.laws.lanes_parts_stay.Goals as goal

pub returns : goal.returns
returns c = lanes_stay
