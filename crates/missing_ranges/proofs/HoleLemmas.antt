-- The list of holes has each hole, and nothing else.
use Rattle.std.proofs.Common.{◌≡◌, ◌⊎◌, inl, inr, ℕ, zero, suc, ◌+◌, ◌-◌, ◌<◌, ◌≤◌, List, [], ◌∷◌, Bool, true, false, refl, sym, ◌∙◌, ap, subst, arith}
use Rattle.std.specs.Prelude.{◌==◌, ◌&&◌, ◌||◌, not, nat_le, if◌then◌else◌}
use Rattle.std.specs.List.{AllByRecursion}
use Rattle.std.proofs.lemmas.Bool.{cases_order, eqb-true, eqb-false, le-leb, lt-leb, false≢true, and_left, and_right, or_from}
use Rattle.missing_ranges.specs.Ranges.{with_id, holes}
use Rattle.missing_ranges.specs.RangeLaws.{IsHole, AreRising, is_in_some, AreHoles, HolesAreMaximal, HolesAskWithin}

-- ranges that rise from an id on rise from a lower one too
rising_below : (low lower : ℕ) (rs : List (ℕ × ℕ)) → lower ≤ low → AreRising low rs → AreRising lower rs
rising_below low lower [] less rising = tt
rising_below low lower (r ∷ rs) less rising = (omega (arith, rising.0), rising.1, rising.2)

-- an id below them lies in none of them
not_in_higher : (k low : ℕ) (rs : List (ℕ × ℕ)) → k < low → AreRising low rs → is_in_some k rs ≡ false
not_in_higher k low [] below rising = refl
not_in_higher k low (r ∷ rs) below rising =
    or_from (nat_le r.0 k && nat_le k r.1) (is_in_some k rs)
    (and_left (nat_le r.0 k) (nat_le k r.1) (lt-leb r.0 k (omega (arith, rising.0))))
    (not_in_higher k (r.1 + 2) rs (omega (arith, rising.0, rising.1)) rising.2)

-- an id more in front, with which no range begins
hole_from : (there : ℕ → Bool) (k to : ℕ) (r : ℕ × ℕ) → (k + 1 ≡ r.0 → there k ≡ true) → IsHole there (k + 1) to r → IsHole there k to r
hole_from there k to r next h = record {
  begins = omega (arith, h.begins);
  rises = h.rises;
  ends = h.ends;
  clear = h.clear;
  before = λ above. go (cases_order (k + 1) r.0);
  after = h.after;
} where
  go : (k + 1 ≡ r.0) ⊎ ((k + 1 < r.0) ⊎ (r.0 < k + 1)) → there (r.0 - 1) ≡ true
  go (inl same) = let at : r.0 - 1 ≡ k = omega arith in subst (λ (j : ℕ). there j ≡ true) (sym at) (next same)
  go (inr (inl more)) = h.before more
  go (inr (inr less)) = absurd (omega (arith, h.begins))

holes_above : (there : ℕ → Bool) (k to low : ℕ) (rs : List (ℕ × ℕ)) → k + 1 < low → AreRising low rs → AllByRecursion (IsHole there (k + 1) to) rs → AllByRecursion (IsHole there k to) rs
holes_above there k to low [] above rising each = tt
holes_above there k to low (r ∷ rs) above rising each = (
  hole_from there k to r (λ same. absurd (omega (arith, rising.0))) each.0,
  holes_above there k to (r.1 + 2) rs (omega (arith, rising.0, rising.1)) rising.2 each.1,
)

holes_beside : (there : ℕ → Bool) (k to low : ℕ) (rs : List (ℕ × ℕ)) → there k ≡ true → AllByRecursion (IsHole there (k + 1) to) rs → AllByRecursion (IsHole there k to) rs
holes_beside there k to low [] set each = tt
holes_beside there k to low (r ∷ rs) set each =
    (hole_from there k to r (λ same. set) each.0, holes_beside there k to low rs set each.1)

-- the ids from k on are k and those from k + 1 on
at_or_above : (P : ℕ → Type 0) (k to : ℕ) → P k → ((j : ℕ) → k + 1 ≤ j → j < to → P j) → (j : ℕ) → k ≤ j → j < to → P j
at_or_above P k to here above j low high = go (cases_order k j) where
  go : (k ≡ j) ⊎ ((k < j) ⊎ (j < k)) → P j
  go (inl same) = subst P same here
  go (inr (inl more)) = above j (omega arith) high
  go (inr (inr less)) = absurd (omega arith)

-- with an id in front for which the test says true
with_set : (there : ℕ → Bool) (k to : ℕ) (rs : List (ℕ × ℕ)) → there k ≡ true → AreHoles there (k + 1) to rs → AreHoles there k to rs
with_set there k to rs set h = record {
  each = holes_beside there k to k rs set h.each;
  rising = rising_below (k + 1) k rs (omega arith) h.rising;
  covered = at_or_above (λ j. is_in_some j rs ≡ not (there j)) k to
      (not_in_higher k (k + 1) rs (omega arith) h.rising ∙ sym (ap not set)) h.covered;
}

-- a range of the id k alone
lone_hole : (there : ℕ → Bool) (k to : ℕ) → k < to → there k ≡ false → (k + 1 < to → there (k + 1) ≡ true) → IsHole there k to (k, k)
lone_hole there k to inside clear next = record {
  begins = omega arith;
  rises = omega arith;
  ends = inside;
  clear = λ j low high. let same : k ≡ j = omega arith in subst (λ (i : ℕ). there i ≡ false) same clear;
  before = λ less. absurd (omega arith);
  after = next;
}

-- a range that the id k joins
joined_hole : (there : ℕ → Bool) (k to : ℕ) (r : ℕ × ℕ) → there k ≡ false → r.0 ≡ k + 1 → IsHole there (k + 1) to r → IsHole there k to (k, r.1)
joined_hole there k to r clear next h = record {
  begins = omega arith;
  rises = omega (arith, h.rises);
  ends = h.ends;
  clear = λ j low high. at_or_above (λ i. there i ≡ false) k (r.1 + 1) clear (λ i lower higher. h.clear i (omega arith) (omega arith)) j low (omega arith);
  before = λ less. absurd (omega arith);
  after = h.after;
}

-- k lies in a range that begins with it
first_in : (k last : ℕ) (rest : Bool) → k ≤ last → (nat_le k k && nat_le k last || rest) ≡ true
first_in k last rest within =
    let low : nat_le k k ≡ true = le-leb k k (omega arith) in
    let high : nat_le k last ≡ true = le-leb k last within in
    rw (low, high) refl

-- k + 1 lies in none of the ranges, so the test says true of it
next_set : (there : ℕ → Bool) (k to : ℕ) (rs : List (ℕ × ℕ)) → AreHoles there (k + 1) to rs → is_in_some (k + 1) rs ≡ false → k + 1 < to → there (k + 1) ≡ true
next_set there k to rs h out inside = go (there (k + 1)) refl where
  go : (v : Bool) → there (k + 1) ≡ v → there (k + 1) ≡ true
  go true e = e
  go false e = absurd (false≢true (sym out ∙ h.covered (k + 1) (omega arith) inside ∙ ap not e))

-- an id above k doesn't lie in the range of k alone
above_lone : (k j : ℕ) (rest : Bool) → k < j → (nat_le k j && nat_le j k || rest) ≡ rest
above_lone k j rest above =
    let out : nat_le j k ≡ false = lt-leb j k above in
    rw (and_right (nat_le k j) (nat_le j k) out) refl

-- an id above k lies in the range that k joined exactly where it lay there before
above_joined : (k j first last : ℕ) (rest : Bool) → k < j → first ≡ k + 1 → (nat_le k j && nat_le j last || rest) ≡ (nat_le first j && nat_le j last || rest)
above_joined k j first last rest above next =
    let low : nat_le k j ≡ true = le-leb k j (omega arith) in
    let high : nat_le first j ≡ true = le-leb first j (omega arith) in
    rw (low, high) refl

-- with an id in front that joins no range
with_lone : (there : ℕ → Bool) (k to : ℕ) (rs : List (ℕ × ℕ)) → k < to → there k ≡ false → AreRising (k + 2) rs → AreHoles there (k + 1) to rs → AreHoles there k to ((k, k) ∷ rs)
with_lone there k to rs inside clear apart h = record {
  each = (
    lone_hole there k to inside clear (next_set there k to rs h (not_in_higher (k + 1) (k + 2) rs (omega arith) apart)),
    holes_above there k to (k + 2) rs (omega arith) apart h.each,
  );
  rising = (omega arith, omega arith, apart);
  covered = at_or_above (λ j. is_in_some j ((k, k) ∷ rs) ≡ not (there j)) k to
      (first_in k k (is_in_some k rs) (omega arith) ∙ sym (ap not clear))
      (λ j low high. above_lone k j (is_in_some j rs) (omega arith) ∙ h.covered j low high);
}

-- with an id in front that joins the first range
with_joined : (there : ℕ → Bool) (k to : ℕ) (r : ℕ × ℕ) (rs : List (ℕ × ℕ)) → there k ≡ false → r.0 ≡ k + 1 → AreHoles there (k + 1) to (r ∷ rs) → AreHoles there k to ((k, r.1) ∷ rs)
with_joined there k to r rs clear next h = record {
  each = (
    joined_hole there k to r clear next h.each.0,
    holes_above there k to (r.1 + 2) rs (omega (arith, h.rising.1)) h.rising.2 h.each.1,
  );
  rising = (omega arith, omega (arith, h.rising.1), h.rising.2);
  covered = at_or_above (λ j. is_in_some j ((k, r.1) ∷ rs) ≡ not (there j)) k to
      (first_in k r.1 (is_in_some k rs) (omega (arith, h.rising.1)) ∙ sym (ap not clear))
      (λ j low high. above_joined k j r.0 r.1 (is_in_some j rs) (omega arith) next ∙ h.covered j low high);
}

-- with an id in front for which the test says false
with_clear : (there : ℕ → Bool) (k to : ℕ) (rs : List (ℕ × ℕ)) → k < to → there k ≡ false → AreHoles there (k + 1) to rs → AreHoles there k to (with_id k rs)
with_clear there k to [] inside clear h = with_lone there k to [] inside clear tt h
with_clear there k to (r ∷ rs) inside clear h = go (r.0 == k + 1) refl where
  go : (v : Bool) → (r.0 == k + 1) ≡ v → AreHoles there k to (if v then (k, r.1) ∷ rs else (k, k) ∷ r ∷ rs)
  go true e = with_joined there k to r rs clear (eqb-true r.0 (k + 1) e) h
  go false e = with_lone there k to (r ∷ rs) inside clear
      (let apart : k + 2 ≤ r.0 = other (eqb-false r.0 (k + 1) e) h.rising.0 in (apart, h.rising.1, h.rising.2)) h
    where
      other : (r.0 ≡ k + 1 → ⊥) → k + 1 ≤ r.0 → k + 2 ≤ r.0
      other apart low = omega arith

-- an id more in front
with_one : (there : ℕ → Bool) (from n : ℕ) → AreHoles there (from + 1) (from + 1 + n) (holes there (from + 1) n) → AreHoles there from (from + suc n) (holes there from (suc n))
with_one there from n h = go (there from) refl where
  rest : AreHoles there (from + 1) (from + suc n) (holes there (from + 1) n)
  rest = let same : from + 1 + n ≡ from + suc n = omega arith in
      subst (λ (to : ℕ). AreHoles there (from + 1) to (holes there (from + 1) n)) same h

  go : (v : Bool) → there from ≡ v → AreHoles there from (from + suc n) (if v then holes there (from + 1) n else with_id from (holes there (from + 1) n))
  go true e = with_set there from (from + suc n) (holes there (from + 1) n) e rest
  go false e = with_clear there from (from + suc n) (holes there (from + 1) n) (omega arith) e rest

-- the list of holes has each hole, and nothing else
pub holes_are_maximal : HolesAreMaximal
holes_are_maximal there from zero =
    record { each = tt; rising = tt; covered = λ k low high. absurd (omega arith) }
holes_are_maximal there from (suc n) = with_one there from n (holes_are_maximal there (from + 1) n)

-- the list asks the test of these ids alone
pub holes_ask_within : HolesAskWithin
holes_ask_within there other from zero same = refl
holes_ask_within there other from (suc n) same =
    let here : there from ≡ other from = same from (omega arith) (omega arith) in
    let rest : holes there (from + 1) n ≡ holes other (from + 1) n =
    holes_ask_within there other (from + 1) n (λ k low high. same k (omega arith) (omega arith)) in
    rw (here, rest) refl
