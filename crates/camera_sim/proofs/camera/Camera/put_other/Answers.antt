-- The invariant after a write to a word.
use Rattle.camera_sim.proofs.Registers.{written_camera}
use Rattle.camera_sim.proofs.camera.Camera.put_other.Goals as goal

pub invariant_of-self : goal.invariant_of-self
invariant_of-self c =
    written_camera _ _ c.self.inside.regs _ _ _ _ _ c.args.address c.args.value c.put.ensures.words c.requires.address c.requires.value c.requires.other c.self.invariant
