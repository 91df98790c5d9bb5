-- The third bit of what a camera tells of itself is the one for resends.
use Rattle.std.proofs.Common.{ℕ, Option, ap, sym}
use Rattle.camera_control.specs.Steps.{allows_resends}
use Rattle.camera_control.proofs.opening.allows_resends.Goals as goal

pub returns-in-Some : goal.returns-in-Some
returns-in-Some c = ap (λ (o : Option ℕ). allows_resends o) (sym c.in-Some.is)
