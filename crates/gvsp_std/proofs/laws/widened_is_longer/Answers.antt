use Rattle.gvsp_std.proofs.Written.{widened_longer}
use Rattle.gvsp_std.proofs.laws.widened_is_longer.Goals as goal

pub returns : goal.returns
returns c = widened_longer
