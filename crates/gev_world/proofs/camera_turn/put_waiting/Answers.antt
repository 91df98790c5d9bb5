use Rattle.gev_world.proofs.Steps.{fewer_wait, on_the_way, did_carry}
use Rattle.gev_world.proofs.camera_turn.put_waiting.Goals as goal

pub packets-smaller : goal.packets-smaller
packets-smaller c = fewer_wait _ _ (did_carry _ _ _ c.in-Ok-true.field-0-test c.in-Ok-true.ensures)

pub packets-preserved : goal.packets-preserved
packets-preserved c = on_the_way _ _ _ c.packets.invariant (did_carry _ _ _ c.in-Ok-true.field-0-test c.in-Ok-true.ensures)
