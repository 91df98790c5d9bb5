-- An image of known length is larger where its length is above the buffer's size.
use Rattle.std.proofs.Common.{ap, ◌∙◌}
use Rattle.block_image.specs.Image.{is_larger}
use Rattle.block_assembly.proofs.Wholes.{extent_is}
use Rattle.block_assembly.proofs.recording.is_larger.Goals as goal

pub returns-in-Some : goal.returns-in-Some
returns-in-Some c ks s =
    ap (is_larger c.args.assembly.now.payload_size c.args.assembly.now.size ks) (c.in-Some.ensures.value ∙ extent_is c.args.assembly.now ks s)
