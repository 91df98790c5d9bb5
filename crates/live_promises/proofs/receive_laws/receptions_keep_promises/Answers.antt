use Rattle.live_promises.proofs.Written.{receptions_keep}
use Rattle.live_promises.proofs.receive_laws.receptions_keep_promises.Goals as goal

pub returns : goal.returns
returns c = receptions_keep
