-- No frame is left.
use Rattle.std.proofs.Common.{refl}
use Rattle.camera_stream.proofs.queue.clear.Goals as goal

pub returns-clause-frame : goal.returns-clause-frame
returns-clause-frame c = refl
