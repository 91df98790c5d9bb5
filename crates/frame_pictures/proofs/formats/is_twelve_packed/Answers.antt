-- The last pattern is packed so too.
use Rattle.std.proofs.Common.{refl}
use Rattle.std.proofs.lemmas.Bool.{le-leb, ne_eqb}
use Rattle.frame_pictures.proofs.formats.is_twelve_packed.Goals as goal

pub returns-then-pixel-ge17563690 : goal.returns-then-pixel-ge17563690
returns-then-pixel-ge17563690 c = rw (ne_eqb _ 17563654 c.if-pixel-eq17563654.false, le-leb 17563690 _ c.if-pixel-ge17563690.true) refl
