-- Ten bits are ten.
use Rattle.std.proofs.Common.{refl}
use Rattle.frame_pictures.proofs.formats.pixel_bits.Goals as goal

pub returns-in-Lsb10 : goal.returns-in-Lsb10
returns-in-Lsb10 c = rw c.in-Lsb10.is refl
