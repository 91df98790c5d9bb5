-- The rows compute.
use Rattle.std.proofs.Common.{refl}
use Rattle.script_trace.specs.WorkedNotes.{DropsAreWorked}

pub drops_are_worked : DropsAreWorked
drops_are_worked = record { claim_takes = refl; newest = refl; claim_gets = refl; nothing = refl; claim_alone = refl; another = refl; all_in_order = refl }
