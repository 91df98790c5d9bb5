use Rattle.block_image.proofs.AllPacketsLemmas.{packets_agree}
use Rattle.block_image.proofs.laws.packets_agree.Goals as goal

pub returns : goal.returns
returns c = packets_agree
