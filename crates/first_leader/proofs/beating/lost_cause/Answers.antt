-- Control is lost where the privilege that was told isn't held.
use Rattle.std.proofs.Common.{Bool, true, Option, Some, None, sym, ap, ◌∙◌}
use Rattle.std.specs.Prelude.{if◌then◌else◌}
use Rattle.camera_control.specs.declared.control_end.ControlEnd.{ControlEnd}
use Rattle.camera_control.specs.declared.control_end.ControlEnd.TheVariants as causes
use Rattle.camera_control.specs.Steps.{lost_cause}
use Rattle.first_leader.proofs.beating.lost_cause.Goals as goal

pub returns-else-is_held : goal.returns-else-is_held
returns-else-is_held c =
    sym
    (ap (lost_cause true) c.in-Some.is
    ∙ ap (λ (b : Bool). let cause : Option ControlEnd = if b then None else Some causes.ControlLost in cause) (sym c.is_held.ensures ∙ c.if-is_held.false))
