use Rattle.gev_control.proofs.Acks.{waits_for_each}
use Rattle.gev_control.proofs.laws.each_order_waits_for_the_one_before.Goals as goal

pub returns : goal.returns
returns c = waits_for_each
