-- A datagram that was sent.
use Rattle.gev_control.proofs.Fronts.{sent_one}
use Rattle.gev_control.proofs.sending.send_unless.Goals as goal

pub returns-in-Ok-clause-sends : goal.returns-in-Ok-clause-sends
returns-in-Ok-clause-sends g c = sent_one _ _ _ _ _ c.if-failed.false c.in-Ok.ensures.sent
