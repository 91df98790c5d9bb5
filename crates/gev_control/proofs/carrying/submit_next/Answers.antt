-- The next order is submitted where no command is outstanding.
use Rattle.gev_control.proofs.carrying.submit_next.Goals as goal

pub submit_order-requires : goal.submit_order-requires
submit_order-requires c = c.is_idle.ensures.0 assumption
