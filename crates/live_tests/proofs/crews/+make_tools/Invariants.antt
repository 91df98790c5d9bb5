use Rattle.std.proofs.Common.{vec_len}
use Rattle.live_tests.proofs.crews.+make_tools.Given as goal

abbrev pub decreases-make_tools : goal.decreases-make_tools
decreases-make_tools l = vec_len l.ends
