use Rattle.std.proofs.Common.{vec_len}
use Rattle.gev_live.proofs.lanes_making.+make_parts.Given as goal

abbrev pub decreases-make_parts : goal.decreases-make_parts
decreases-make_parts l = vec_len l.ends
