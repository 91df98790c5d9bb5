-- A turn's frame counts as one.
use Rattle.std.proofs.Common.{◌+◌, ℕ, Option, ap, sym}
use Rattle.camera_serving.specs.Turns.{one_if}
use Rattle.camera_serving.proofs.turning.with_frame.Goals as goal

pub returns-in-Some : goal.returns-in-Some
returns-in-Some c = ap (λ (o : Option ℕ). c.args.frames + one_if o) (sym c.in-Some.is)
