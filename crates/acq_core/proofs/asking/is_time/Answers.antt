-- A block may ask only while it has rounds left.
use Rattle.std.proofs.Common.{◌≡◌, ◌≢◌, ℕ, ◌<◌, ◌≤◌, Bool, true, false, refl, ◌∙◌}
use Rattle.std.specs.Prelude.{nat_lt, nat_le, ◌==◌, ◌&&◌, ◌||◌}
use Rattle.std.proofs.lemmas.Bool.{lt-ltb, le-ltb, eq-eqb, ne_eqb}
use Rattle.acq_core.proofs.asking.is_time.Goals as goal
use Rattle.acq_core.proofs.asking.is_time.Goals.{then-slot-config, else-slot-config}

left : (v : Bool) (r rounds a age s gap : ℕ) → r < rounds → a ≡ age → s ≡ gap → v ≡ nat_le a s → v ≡ (nat_lt r rounds && nat_le age gap)
left v r rounds a age s gap l e f is = rw (lt-ltb r rounds l, ← e, ← f) is

over : (v : Bool) (r rounds age gap : ℕ) → rounds ≤ r → v ≡ nat_lt r rounds → v ≡ (nat_lt r rounds && nat_le age gap)
over v r rounds age gap l is = rw (le-ltb r rounds l) (is ∙ le-ltb r rounds l)

asks_not : (v w x : Bool) → v ≡ false → v ≡ w → v ≡ (w && x)
asks_not v w x f e = rw (← e, f) refl

asks_first : (v w x : Bool) (n : ℕ) → v ≡ true → n ≡ 0 → v ≡ w → (n == 0) ≡ (w && (n == 0 || x))
asks_first v w x n t z e = rw (← e, t, eq-eqb n 0 z) refl

asks_again : (v w y : Bool) (n a age s gap : ℕ) → v ≡ true → n ≢ 0 → a ≡ age → s ≡ gap → y ≡ nat_le a s → v ≡ w → y ≡ (w && (n == 0 || nat_le age gap))
asks_again v w y n a age s gap t z e f is ready = rw (← ready, t, ne_eqb n 0 z, ← e, ← f) is

pub returns-else-age-saturating_sub : goal.returns-else-age-saturating_sub
returns-else-age-saturating_sub c =
    elim c.if-slot-config.branch [
      | then-slot-config w ↦ asks_not _ _ _ c.if-age-saturating_sub.false (left _ _ _ _ _ _ _ w.if-slot-config.true c.from-age.ensures w.saturating_sub.ensures w.value-is)
      | else-slot-config w ↦ asks_not _ _ _ c.if-age-saturating_sub.false (over _ _ _ _ _ w.if-slot-config.false w.value-is)
    ]

pub returns-then-slot-eq0 : goal.returns-then-slot-eq0
returns-then-slot-eq0 c =
    elim c.if-slot-config.branch [
      | then-slot-config w ↦
          asks_first _ _ _ _ c.if-age-saturating_sub.true c.if-slot-eq0.true (left _ _ _ _ _ _ _ w.if-slot-config.true c.from-age.ensures w.saturating_sub.ensures w.value-is)
      | else-slot-config w ↦ asks_first _ _ _ _ c.if-age-saturating_sub.true c.if-slot-eq0.true (over _ _ _ _ _ w.if-slot-config.false w.value-is)
    ]

pub returns-else-slot-eq0 : goal.returns-else-slot-eq0
returns-else-slot-eq0 c =
    elim c.if-slot-config.branch [
      | then-slot-config w ↦
          asks_again _ _ _ _ _ _ _ _ c.if-age-saturating_sub.true c.if-slot-eq0.false c.from-age.ensures c.saturating_sub-else-slot-eq0.ensures refl
          (left _ _ _ _ _ _ _ w.if-slot-config.true c.from-age.ensures w.saturating_sub.ensures w.value-is)
      | else-slot-config w ↦
          asks_again _ _ _ _ _ _ _ _ c.if-age-saturating_sub.true c.if-slot-eq0.false c.from-age.ensures c.saturating_sub-else-slot-eq0.ensures refl
          (over _ _ _ _ _ w.if-slot-config.false w.value-is)
    ]
