use Rattle.block_assembly.proofs.Accepts.{sound}
use Rattle.block_assembly.proofs.assembly.Assembly.account.Goals as goal

pub account_of-requires-clause-sound : goal.account_of-requires-clause-sound
account_of-requires-clause-sound c = sound c.self.inside.progress c.self.invariant
