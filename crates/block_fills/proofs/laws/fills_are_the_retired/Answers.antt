use Rattle.block_fills.proofs.Tries.{retired_tried}
use Rattle.block_fills.proofs.laws.fills_are_the_retired.Goals as goal

pub returns : goal.returns
returns c = retired_tried
