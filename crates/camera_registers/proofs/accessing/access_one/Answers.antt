use Rattle.std.proofs.Common.{refl}
use Rattle.camera_registers.specs.Registers.{EndsAll}
use Rattle.camera_registers.proofs.accessing.access_one.Goals as goal

pub returns-in-Err-clause-makes : goal.returns-in-Err-clause-makes
returns-in-Err-clause-makes g c = EndsAll.failed c.in-Err.ensures.makes.0 c.in-Err.ensures.makes.1.0 c.in-Err.ensures.makes.1.1 refl
