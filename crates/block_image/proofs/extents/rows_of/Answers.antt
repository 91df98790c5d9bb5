-- Lines that an image may have are as many as the trailer tells.
use Rattle.std.proofs.Common.{refl, sym, ◌∙◌}
use Rattle.block_image.proofs.extents.rows_of.Goals as goal

pub returns-in-Some : goal.returns-in-Some
returns-in-Some c = rw (c.in-Some.is, sym c.are_lines.ensures ∙ c.if-are_lines.true) refl
