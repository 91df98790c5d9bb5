use Rattle.gev_serve.proofs.Partial.{sends_failed}
use Rattle.gev_serve.proofs.turns.obey.Goals as goal

pub returns-in-Err-clause-sends : goal.returns-in-Err-clause-sends
returns-in-Err-clause-sends g c = sends_failed _ _ _ c.in-Err.ensures.unsent c.in-Err.ensures.received c.in-Err.ensures.failed
