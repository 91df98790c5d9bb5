use Rattle.gev_control.proofs.ThroughOrders.{through_in_order}
use Rattle.gev_control.proofs.laws.orders_that_go_through_are_in_order.Goals as goal

pub returns : goal.returns
returns c = through_in_order
