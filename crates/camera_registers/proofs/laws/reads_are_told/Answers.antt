use Rattle.camera_registers.proofs.Told.{reads_are_told}
use Rattle.camera_registers.proofs.laws.reads_are_told.Goals as goal

pub returns : goal.returns
returns c = reads_are_told
