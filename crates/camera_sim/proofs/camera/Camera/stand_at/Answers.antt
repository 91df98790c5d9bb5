-- The invariant after the camera's own address is set.
use Rattle.camera_sim.proofs.Registers.{standing_camera}
use Rattle.camera_sim.proofs.camera.Camera.stand_at.Goals as goal

pub invariant_of-self : goal.invariant_of-self
invariant_of-self c = standing_camera _ _ c.self.inside.regs _ _ _ _ _ c.args.address c.put.ensures.words c.self.invariant
