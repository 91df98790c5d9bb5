use Rattle.live_promises.proofs.Refusals.{refused_read}
use Rattle.live_promises.proofs.client_causes.refused_is_read.Goals as goal

pub returns : goal.returns
returns c = refused_read
