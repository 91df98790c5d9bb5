use Rattle.block_image.proofs.AllPacketsLemmas.{all_packets_agree}
use Rattle.block_image.proofs.laws.all_packets_agree.Goals as goal

pub returns : goal.returns
returns c = all_packets_agree
