-- Eight bits are a byte.
use Rattle.std.proofs.Common.{refl}
use Rattle.frame_pictures.proofs.formats.fills_bytes.Goals as goal

pub returns : goal.returns
returns c = rw (c.from.ensures, c.from-2.ensures, c.pixel_bits.ensures) refl
