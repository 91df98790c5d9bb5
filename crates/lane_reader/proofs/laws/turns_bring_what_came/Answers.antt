use Rattle.lane_reader.proofs.Bringing.{turns_bring}
use Rattle.lane_reader.proofs.laws.turns_bring_what_came.Goals as goal

pub returns : goal.returns
returns c = turns_bring
