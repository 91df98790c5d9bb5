-- What the privilege requires of a value.
use Rattle.std.proofs.Common.{true}
use Rattle.bootstrap_regs.specs.Addresses.{CCP}
use Rattle.bootstrap_regs.specs.Registers.{value_refusal}
use Rattle.control_privilege.specs.Control.{may_write}
use Rattle.camera_machine.specs.Access.{denied_unless}
use Rattle.camera_sim.proofs.Registers.{second_none, privilege_value}
use Rattle.camera_sim.proofs.camera.Camera.put_privilege.Goals as goal

pub set-requires-clause-value : goal.set-requires-clause-value
set-requires-clause-value c =
    privilege_value c.args.value
    (second_none (denied_unless (may_write c.args.self.now.holder c.args.peer true)) (value_refusal CCP c.args.value) c.requires)
