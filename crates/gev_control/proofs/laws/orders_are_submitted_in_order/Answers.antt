use Rattle.gev_control.proofs.Submissions.{in_order}
use Rattle.gev_control.proofs.laws.orders_are_submitted_in_order.Goals as goal

pub returns : goal.returns
returns c = in_order
