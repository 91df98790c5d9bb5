-- The setup's commands are carried out as a list.
use Rattle.std.proofs.Common.{length, ◌<◌, sym, subst, inl, arith}
use Rattle.gev_control.proofs.OrderRuns.{as_setup}
use Rattle.gev_control.proofs.setting_up.setup.Goals as goal

pub carry_out-requires : goal.carry_out-requires
carry_out-requires g c = inl (subst (λ l. 0 < length l) (sym c.setup_orders-orders.ensures) (omega arith))

pub returns-clause-sets_up : goal.returns-clause-sets_up
returns-clause-sets_up g c = as_setup _ _ _ _ _ _ c.setup_orders-orders.ensures c.carry_out.ensures.carries_out
