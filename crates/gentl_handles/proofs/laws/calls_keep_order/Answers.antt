use Rattle.gentl_handles.proofs.Histories.{calls_ordered}
use Rattle.gentl_handles.proofs.laws.calls_keep_order.Goals as goal

pub returns : goal.returns
returns c = calls_ordered
