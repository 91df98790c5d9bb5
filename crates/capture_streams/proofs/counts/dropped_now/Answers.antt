-- What is told now is added, and what was told before is taken off.
use Rattle.std.proofs.Common.{◌≡◌, ℕ, ◌+◌, ◌-◌, ◌^◌, ap, arith}
use Rattle.std.specs.Prelude.{min}
use Rattle.capture_streams.proofs.counts.dropped_now.Goals as goal

turned : (a b : ℕ) → min a b ≡ min b a
turned a b = omega arith

pub returns : goal.returns
returns c =
    rw (c.saturating_sub.ensures, c.saturating_add.ensures, c.from.ensures, c.from-2.ensures)
    (ap (λ (n : ℕ). n - c.args.before) (turned (c.args.sum + c.args.now) (2 ^ 128 - 1)))
