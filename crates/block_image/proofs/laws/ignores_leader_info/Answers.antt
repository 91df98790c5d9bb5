use Rattle.block_image.proofs.KeptLawLemmas.{ignores_leader_info}
use Rattle.block_image.proofs.laws.ignores_leader_info.Goals as goal

pub returns : goal.returns
returns c = ignores_leader_info
