-- A packet that repeats one changes nothing.
use Rattle.std.proofs.Common.{refl}
use Rattle.block_assembly.proofs.keeping.act.Goals as goal

pub returns-in-Repeat : goal.returns-in-Repeat
returns-in-Repeat c = rw c.in-Repeat.is refl
