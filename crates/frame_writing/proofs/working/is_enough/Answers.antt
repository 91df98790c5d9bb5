-- Behind a write that failed the run is stopped.
use Rattle.std.proofs.Common.{sym, ap}
use Rattle.frame_writing.specs.Work.{has_enough}
use Rattle.frame_writing.proofs.working.is_enough.Goals as goal

pub returns-in-WriteFault : goal.returns-in-WriteFault
returns-in-WriteFault c = sym (ap has_enough c.in-WriteFault.is)
