-- What is asked for is rounded up.
use Rattle.std.proofs.Common.{◌+◌, ◌*◌, ◌/◌, ap}
use Rattle.camera_description.proofs.copying.asked_count.Goals as goal

pub returns : goal.returns
returns c = ap (λ m. (m + 3) / 4 * 4) c.min.ensures
