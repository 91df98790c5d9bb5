-- Of the two with an alpha each lies in its own order.
use Rattle.std.proofs.Common.{sym, ap}
use Rattle.frame_pictures.specs.Formats.{channels_of}
use Rattle.frame_pictures.proofs.formats.channels_of.Goals as goal

pub returns-then-pixel-eq35651607 : goal.returns-then-pixel-eq35651607
returns-then-pixel-eq35651607 c = sym (ap channels_of c.if-pixel-eq35651607.true)
