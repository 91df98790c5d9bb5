-- The first missing range, and the list of the first eight.
use Rattle.std.proofs.Common.{◌≡◌, ◌⊎◌, inl, inr, ℕ, suc, ◌+◌, ◌-◌, ◌<◌, ◌≤◌, List, [], ◌∷◌, ◌++◌, length, take, Bool, true, Some, None, sym, ◌∙◌, ap, arith}
use Rattle.std.specs.Prelude.{◌||◌}
use Rattle.std.proofs.lemmas.Bool.{or_from, or_left, or_right, cases_lt}
use Rattle.std.proofs.lemmas.List.{length-append, append_assoc, append-nil}
use Rattle.std.proofs.Math.Seq.{take-nil}
use Rattle.missing_ranges.specs.Ranges.{holes}
use Rattle.missing_ranges.specs.RangeLaws.{IsFirstHole}
use Rattle.missing_ranges.proofs.FirstLemmas.{holes_begin_with_first}

-- the test says true of each of these ids
abbrev pub AllTrue : (ℕ → Bool) → ℕ → ℕ → Type 0
AllTrue there from to = (id : ℕ) → from ≤ id → id < to → there id ≡ true

abbrev pub either : (ℕ → Bool) → (ℕ → Bool) → ℕ → Bool
either f g id = f id || g id

-- up to the first hole of one test, and there up to the first hole of the other
before_both : (f g : ℕ → Bool) (from at first second : ℕ) → AllTrue (either f g) from at → AllTrue f at first → AllTrue g first second → AllTrue (either f g) from second
before_both f g from at first second done upper lower id low high = go (cases_lt id at) (cases_lt id first) where
  go : (id < at) ⊎ (at ≤ id) → (id < first) ⊎ (first ≤ id) → either f g id ≡ true
  go (inl less) rest = done id low less
  go (inr more) (inl less) = or_left (f id) (g id) (upper id more less)
  go (inr more) (inr above) = or_right (f id) (g id) (lower id above high)

-- the first hole of one test within the first hole of the other
pub hole_of_both : (f g : ℕ → Bool) (from at to : ℕ) (r s : ℕ × ℕ) → from ≤ at → AllTrue (either f g) from at → IsFirstHole f at to (Some r) → IsFirstHole g r.0 (r.1 + 1) (Some s) → IsFirstHole (either f g) from to (Some s)
hole_of_both f g from at to r s rest done h l = record {
  hole = record {
    begins = omega (arith, h.hole.begins, l.hole.begins);
    rises = l.hole.rises;
    ends = omega (arith, h.hole.ends, l.hole.ends);
    clear = λ id low high. or_from (f id) (g id) (h.hole.clear id (omega (arith, l.hole.begins)) (omega (arith, l.hole.ends))) (l.hole.clear id low high);
    before = λ less. before (s.0 - 1) (omega arith) (omega arith);
    after = λ less. after (cases_lt (s.1 + 1) (r.1 + 1)) less;
  };
  lowest = before;
} where
  before : AllTrue (either f g) from s.0
  before = before_both f g from at r.0 s.0 done h.lowest l.lowest

  after : (s.1 + 1 < r.1 + 1) ⊎ (r.1 + 1 ≤ s.1 + 1) → s.1 + 1 < to → either f g (s.1 + 1) ≡ true
  after (inl within) less = or_right (f (s.1 + 1)) (g (s.1 + 1)) (l.hole.after within)
  after (inr past) less =
      let same : r.1 ≡ s.1 = omega (arith, l.hole.ends) in
      or_left (f (s.1 + 1)) (g (s.1 + 1)) (ap (λ (k : ℕ). f (k + 1)) (sym same) ∙ h.hole.after (omega arith))

-- the other test says true throughout the first hole
pub behind_hole : (f g : ℕ → Bool) (from at to : ℕ) (r : ℕ × ℕ) → AllTrue (either f g) from at → IsFirstHole f at to (Some r) → IsFirstHole g r.0 (r.1 + 1) None → AllTrue (either f g) from (r.1 + 1)
behind_hole f g from at to r done h l = before_both f g from at r.0 (r.1 + 1) done h.lowest l

-- nothing is left behind the first hole
pub none_behind : (f g : ℕ → Bool) (from at to : ℕ) (r : ℕ × ℕ) → to ≤ r.1 + 1 → AllTrue (either f g) from at → IsFirstHole f at to (Some r) → IsFirstHole g r.0 (r.1 + 1) None → IsFirstHole (either f g) from to None
none_behind f g from at to r past done h l id low high = behind_hole f g from at to r done h l id low (omega arith)

-- the one test has no hole
pub none_at_all : (f g : ℕ → Bool) (from at to : ℕ) → AllTrue (either f g) from at → IsFirstHole f at to None → IsFirstHole (either f g) from to None
none_at_all f g from at to done h id low high = go (cases_lt id at) where
  go : (id < at) ⊎ (at ≤ id) → either f g id ≡ true
  go (inl less) = done id low less
  go (inr more) = or_left (f id) (g id) (h id more high)

-- these ranges, and as many behind them as eight leave room for
abbrev pub filled_up : (ℕ → Bool) → List (ℕ × ℕ) → ℕ → ℕ → List (ℕ × ℕ)
filled_up there items from to = items ++ take (8 - length items) (holes there from (to - from))

-- one more range
pub filled-push : (there : ℕ → Bool) (items new : List (ℕ × ℕ)) (from to : ℕ) (r : ℕ × ℕ) → length items < 8 → new ≡ items ++ r ∷ [] → IsFirstHole there from to (Some r) → filled_up there new (r.1 + 1) to ≡ filled_up there items from to
filled-push there items new from to r room pushed h =
    let rest : List (ℕ × ℕ) = holes there (r.1 + 1) (to - (r.1 + 1)) in
    let head : holes there from (to - from) ≡ r ∷ rest = holes_begin_with_first there from to (Some r) h in
    let left : 8 - length items ≡ suc (8 - length new) = omega (arith, ap length pushed, length-append items (r ∷ [])) in
    let taken : take (8 - length items) (holes there from (to - from)) ≡ r ∷ take (8 - length new) rest =
    ap (λ (n : ℕ). take n (holes there from (to - from))) left ∙ ap (λ (rs : List (ℕ × ℕ)). take (suc (8 - length new)) rs) head in
    ap (λ (rs : List (ℕ × ℕ)). rs ++ take (8 - length new) rest) pushed
    ∙ append_assoc items (r ∷ []) (take (8 - length new) rest)
    ∙ sym (ap (λ (rs : List (ℕ × ℕ)). items ++ rs) taken)

-- no range is left, or there is no room for one
pub filled-none : (there : ℕ → Bool) (items : List (ℕ × ℕ)) (from to : ℕ) → IsFirstHole there from to None → filled_up there items from to ≡ items
filled-none there items from to h =
    ap (λ (rs : List (ℕ × ℕ)). items ++ take (8 - length items) rs) (holes_begin_with_first there from to None h)
    ∙ ap (λ (rs : List (ℕ × ℕ)). items ++ rs) (take-nil (8 - length items)) ∙ append-nil items

pub filled-past : (there : ℕ → Bool) (items : List (ℕ × ℕ)) (from to : ℕ) → to ≤ from → filled_up there items from to ≡ items
filled-past there items from to past = filled-none there items from to (λ id low high. absurd (omega arith))

pub filled-full : (there : ℕ → Bool) (items : List (ℕ × ℕ)) (from to : ℕ) → 8 ≤ length items → filled_up there items from to ≡ items
filled-full there items from to full =
    let none : 8 - length items ≡ 0 = omega arith in
    ap (λ (n : ℕ). items ++ take n (holes there from (to - from))) none ∙ append-nil items

-- at first
pub filled-empty : (there : ℕ → Bool) (items : List (ℕ × ℕ)) (to : ℕ) → items ≡ [] → filled_up there items 0 to ≡ take 8 (holes there 0 to)
filled-empty there items to empty =
    let all : to - 0 ≡ to = omega arith in
    ap (λ (rs : List (ℕ × ℕ)). filled_up there rs 0 to) empty ∙ ap (λ (n : ℕ). take 8 (holes there 0 n)) all
