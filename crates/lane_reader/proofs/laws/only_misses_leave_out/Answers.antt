use Rattle.lane_reader.proofs.Bringing.{misses_leave_out}
use Rattle.lane_reader.proofs.laws.only_misses_leave_out.Goals as goal

pub returns : goal.returns
returns c = misses_leave_out
