use Rattle.gev_serve.proofs.Partial.{sends_stop}
use Rattle.gev_serve.proofs.turns.frame_and_send.Goals as goal

pub returns-in-Err-clause-sends : goal.returns-in-Err-clause-sends
returns-in-Err-clause-sends g c = sends_stop _ _
