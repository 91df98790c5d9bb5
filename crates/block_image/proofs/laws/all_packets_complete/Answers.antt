use Rattle.block_image.proofs.OneBlockLemmas.{all_packets_complete}
use Rattle.block_image.proofs.laws.all_packets_complete.Goals as goal

pub returns : goal.returns
returns c = all_packets_complete
