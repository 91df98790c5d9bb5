use Rattle.script_image.proofs.Promised.{pictures_show_blocks}
use Rattle.script_image.proofs.laws.pictures_show_blocks.Goals as goal

pub returns : goal.returns
returns c = pictures_show_blocks
