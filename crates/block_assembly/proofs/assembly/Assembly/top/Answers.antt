use Rattle.block_assembly.proofs.Accepts.{sound}
use Rattle.block_assembly.proofs.assembly.Assembly.top.Goals as goal

pub top-requires : goal.top-requires
top-requires c = sound c.self.inside.progress c.self.invariant
