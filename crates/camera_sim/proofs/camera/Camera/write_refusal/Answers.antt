-- The address goes before the access, and that before the value.
use Rattle.std.proofs.Common.{Option, ap, ap₂, ◌∙◌}
use Rattle.std.specs.Option.{option_or}
use Rattle.gvcp_wire.specs.declared.status.Status.{Status}
use Rattle.camera_machine.specs.Access.{denied_unless}
use Rattle.camera_sim.proofs.camera.Camera.write_refusal.Goals as goal

pub returns : goal.returns
returns c =
    rw (← c.self.view_is)
    (c.or-2.ensures
    ∙ ap₂ (λ (a b : Option Status). option_or a b) c.address_refusal.ensures
    (c.or.ensures ∙ ap₂ (λ (a b : Option Status). option_or a b) (c.denied_unless.ensures ∙ ap denied_unless c.may_write-may_write.ensures) c.value_refusal.ensures))
