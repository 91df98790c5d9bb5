use Rattle.live_promises.proofs.Reception.{receptions_have}
use Rattle.live_promises.proofs.receive_laws.receptions_have_causes.Goals as goal

pub returns : goal.returns
returns c = receptions_have
