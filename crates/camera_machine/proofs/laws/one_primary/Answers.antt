use Rattle.camera_machine.proofs.Passing.{one_primary}
use Rattle.camera_machine.proofs.laws.one_primary.Goals as goal

pub returns : goal.returns
returns c = one_primary
