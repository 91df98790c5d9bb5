-- The magic number of a file in nanoseconds tells a thousand million parts of a second.
use Rattle.std.proofs.Common.{sym, ap}
use Rattle.gev_capture.specs.Files.{classic_magic}
use Rattle.gev_capture.proofs.telling.classic_magic.Goals as goal

pub returns-in-2712812621 : goal.returns-in-2712812621
returns-in-2712812621 c = sym (ap classic_magic c.in-2712812621.is)
