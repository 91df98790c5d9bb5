use Rattle.block_fills.proofs.Acquisitions.{retired_blocks}
use Rattle.block_fills.proofs.laws.retired_blocks_are_blocks.Goals as goal

pub returns : goal.returns
returns c = retired_blocks
