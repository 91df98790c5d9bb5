-- A release leaves the camera's frames as short or as whole as they were.
use Rattle.std.proofs.Common.{refl}
use Rattle.camera_sim.proofs.camera.Camera.release.Goals as goal

pub returns : goal.returns
returns c = rw (← c.self.view_is, c.release.ensures.words, c.new-self-inside.ensures, c.drop_waiting.ensures) refl
