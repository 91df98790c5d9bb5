use Rattle.frame_pictures.proofs.Heads.{retired_heads_tell_their_block}
use Rattle.frame_pictures.proofs.laws.retired_heads_tell_their_block.Goals as goal

pub returns : goal.returns
returns c = retired_heads_tell_their_block
