-- The second DISCOVERY is due by the milliseconds since the first.
use Rattle.std.proofs.Common.{nat_le, ap}
use Rattle.camera_search.proofs.asking.is_second.Goals as goal

pub returns : goal.returns
returns c = ap (λ k. nat_le 500 k) c.saturating_sub.ensures
