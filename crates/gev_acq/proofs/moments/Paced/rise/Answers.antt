-- The smaller of the two, whichever is named first.
use Rattle.std.proofs.Common.{◌≡◌, ℕ, min, ap, subst, ◌∙◌}
use Rattle.gev_acq.specs.Moments.{PacedClock, most_rise, rise_at}
use Rattle.std.proofs.Math.Nat.{min_comm}
use Rattle.gev_acq.proofs.moments.Paced.rise.Goals as goal

pub returns : goal.returns
returns c =
    subst (λ (p : PacedClock). c.min.result ≡ rise_at p c.args.moment) c.self.view_is
    (c.min.ensures ∙ ap (λ (k : ℕ). min k most_rise) c.saturating_sub.ensures ∙ min_comm _ most_rise)
