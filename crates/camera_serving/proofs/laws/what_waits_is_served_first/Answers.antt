use Rattle.camera_serving.proofs.Ordering.{served_first}
use Rattle.camera_serving.proofs.laws.what_waits_is_served_first.Goals as goal

pub returns : goal.returns
returns c = served_first
