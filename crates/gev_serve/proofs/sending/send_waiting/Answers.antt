use Rattle.gev_serve.proofs.Draining.{sending_more, sent_one}
use Rattle.gev_serve.proofs.sending.send_waiting.Goals as goal

pub packets-preserved : goal.packets-preserved
packets-preserved g c = sending_more _ _ _ _ _ _ c.packets.invariant (sent_one _ _ _ _ _ c.in-Ok-true.field-0-test c.in-Ok-true.ensures)
