use Rattle.gev_apply.proofs.Whole.{part_stays}
use Rattle.gev_apply.proofs.laws.the_applications_part_stays.Goals as goal

pub returns : goal.returns
returns c = part_stays
