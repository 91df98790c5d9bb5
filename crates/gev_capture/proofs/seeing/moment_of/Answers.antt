-- The moment is at least the last one, and at most what 64 bits hold.
use Rattle.std.proofs.Common.{◌≡◌, ℕ, ◌-◌, ◌/◌, ◌^◌, arith}
use Rattle.std.specs.Prelude.{min, max}
use Rattle.gev_capture.proofs.seeing.moment_of.Goals as goal

turned : (a b m : ℕ) → min (max a b) m ≡ min m (max b a)
turned a b m = omega arith

pub returns : goal.returns
returns c =
    rw (c.min-since.ensures, c.max.ensures, c.saturating_sub-since.ensures, c.from.ensures, c.from-2.ensures)
    (turned ((c.args.time - c.args.first) / 1000000) c.args.last (2 ^ 64 - 1))
