use Rattle.std.proofs.Common.{vec_len}
use Rattle.gev_live.proofs.lane_passes.+split_lanes.Given as goal

abbrev pub decreases-split_lanes : goal.decreases-split_lanes
decreases-split_lanes l = vec_len l.parts
