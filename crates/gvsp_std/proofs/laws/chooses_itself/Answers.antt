use Rattle.gvsp_std.proofs.Nearness.{chooses_itself}
use Rattle.gvsp_std.proofs.laws.chooses_itself.Goals as goal

pub returns : goal.returns
returns c = chooses_itself
