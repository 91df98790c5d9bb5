-- The lowest 14 bits of the place tell whether it is a fragment.
use Rattle.std.proofs.Common.{ℕ, ◌%◌, ap}
use Rattle.std.specs.Prelude.{◌==◌, not}
use Rattle.gev_capture.proofs.seeing.is_fragment.Goals as goal

pub returns : goal.returns
returns c = ap (λ (n : ℕ). not (n % 16384 == 0)) c.u16_at.ensures
