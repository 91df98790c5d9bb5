-- The invariant after a write to the port.
use Rattle.camera_sim.proofs.Registers.{port_camera}
use Rattle.camera_sim.proofs.camera.Camera.put_port.Goals as goal

pub invariant_of-self-then-not-was_open : goal.invariant_of-self-then-not-was_open
invariant_of-self-then-not-was_open c =
    port_camera _ _ c.self.inside.regs _ c.self.inside.stream.waiting _ _ _ _ c.args.value c.put.ensures.words c.requires (λ z. absurd (c.if-value-eq0.false z)) c.self.invariant

pub invariant_of-self-else-not-was_open : goal.invariant_of-self-else-not-was_open
invariant_of-self-else-not-was_open c =
    port_camera _ _ c.self.inside.regs _ c.self.inside.stream.waiting _ _ _ _ c.args.value c.put.ensures.words c.requires (λ z. absurd (c.if-value-eq0.false z)) c.self.invariant
