use Rattle.block_assembly.proofs.Accepts.{sound}
use Rattle.block_assembly.proofs.assembly.Assembly.is_complete.Goals as goal

pub completes-requires : goal.completes-requires
completes-requires c = sound c.self.inside.progress c.self.invariant
