use Rattle.gvsp_std.proofs.Nearness.{names_near}
use Rattle.gvsp_std.proofs.laws.chooses_the_near.Goals as goal

pub returns : goal.returns
returns c = names_near
