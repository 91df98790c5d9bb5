use Rattle.std.proofs.Common.{refl}
use Rattle.block_image.proofs.laws.infos_are_worked.Goals as goal

pub returns : goal.returns
returns c = record { recorded = refl; announced = refl; of_frame = refl }
