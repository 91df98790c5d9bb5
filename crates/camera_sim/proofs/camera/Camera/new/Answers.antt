-- The invariant of a new camera.
use Rattle.std.proofs.Common.{rules}
use Rattle.camera_sim.proofs.Registers.{first_registers}
use Rattle.camera_sim.proofs.camera.Camera.new.Goals as goal

pub invariant_of-result : goal.invariant_of-result
invariant_of-result c = record {
  image = c.requires.image;
  lines = λ short. absurd (cc);
  registers = first_registers _ c.new-2.ensures;
  closed = λ _. search rules;
  keeps = tt;
  command_size = search rules;
  answer_size = search rules;
}
