-- The told moment rises by what the reading rose.
use Rattle.std.proofs.Common.{◌≡◌, ℕ, ◌+◌, ◌-◌, ◌^◌, min, ap, ◌∙◌}
use Rattle.gev_acq.specs.Moments.{PacedClock, rise_at, told_at, SaysPaced}
use Rattle.gev_acq.proofs.moments.PacedMoments.tell.Goals as goal

says : (p : PacedClock) (moment rise told : ℕ) → told ≡ min (p.told + rise) (2 ^ 64 - 1) → rise ≡ rise_at p moment
    → SaysPaced p moment told (record { before = moment; told = told })
says p moment rise told is rose = (same, ap (λ (k : ℕ). record { before = moment; told = k }) same)
  where
    same : told ≡ told_at p moment
    same = is ∙ ap (λ (k : ℕ). min (p.told + k) (2 ^ 64 - 1)) rose

pub returns : goal.returns
returns c = record {
  says = says c.args.self.now c.args.moment c.rise-rise.result c.saturating_add-self-inside.result
      (c.saturating_add-self-inside.ensures ∙ ap (λ (p : PacedClock). min (p.told + c.rise-rise.result) (2 ^ 64 - 1)) c.self.view_is) c.rise-rise.ensures;
}
