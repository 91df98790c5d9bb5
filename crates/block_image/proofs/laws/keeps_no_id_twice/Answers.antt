use Rattle.block_image.proofs.KeptLawLemmas.{keeps_no_id_twice}
use Rattle.block_image.proofs.laws.keeps_no_id_twice.Goals as goal

pub returns : goal.returns
returns c = keeps_no_id_twice
