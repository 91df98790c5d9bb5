-- What the setup did on the control link; the stream stays.
use Rattle.std.proofs.Common.{refl}
use Rattle.gev_acq.proofs.host.Host.set_up.Goals as goal

pub returns-clause-sets_up : goal.returns-clause-sets_up
returns-clause-sets_up g c = c.setup.ensures.sets_up

pub returns-clause-fails : goal.returns-clause-fails
returns-clause-fails g c = c.setup.ensures.fails

pub returns-clause-stream : goal.returns-clause-stream
returns-clause-stream g c = refl
