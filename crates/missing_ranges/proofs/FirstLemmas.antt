-- The first hole heads the list of holes.
use Rattle.std.proofs.Common.{◌≡◌, ◌⊎◌, inl, inr, ℕ, zero, suc, ◌+◌, ◌-◌, ◌<◌, ◌≤◌, List, [], ◌∷◌, Bool, true, false, Some, None, refl, sym, ◌∙◌, ap, subst, arith}
use Rattle.std.specs.Prelude.{◌==◌}
use Rattle.std.proofs.lemmas.Bool.{cases_order, eq-eqb, ne_eqb}
use Rattle.missing_ranges.specs.Ranges.{with_id, holes}
use Rattle.missing_ranges.specs.RangeLaws.{AreRising, IsLowestHole, HolesBeginWithFirst}
use Rattle.missing_ranges.proofs.HoleLemmas.{holes_are_maximal}

-- holes behind an id for which the test says true, if it is in question, begin above it
holes_behind : (there : ℕ → Bool) (k n : ℕ) → (0 < n → there k ≡ true) → AreRising (k + 1) (holes there k n)
holes_behind there k zero set = tt
holes_behind there k (suc n) set =
    let here : there k ≡ true = set (omega arith) in
    rw here (holes_are_maximal there (k + 1) n).rising

-- an id stays alone before ranges that begin further up
with_id-lone : (k : ℕ) (rs : List (ℕ × ℕ)) → AreRising (k + 2) rs → with_id k rs ≡ (k, k) ∷ rs
with_id-lone k [] rising = refl
with_id-lone k (r ∷ rs) rising =
    let apart : (r.0 == k + 1) ≡ false = ne_eqb r.0 (k + 1) (λ e. omega (arith, rising.0)) in
    rw apart refl

-- an id joins the range that begins next to it
with_id-joined : (k last : ℕ) (rs : List (ℕ × ℕ)) → with_id k ((k + 1, last) ∷ rs) ≡ (k, last) ∷ rs
with_id-joined k last rs =
    let next : (k + 1 == k + 1) ≡ true = eq-eqb (k + 1) (k + 1) refl in
    rw next refl

-- no id is clear
no_holes : (there : ℕ → Bool) (k n : ℕ) → ((j : ℕ) → k ≤ j → j < k + n → there j ≡ true) → holes there k n ≡ []
no_holes there k zero set = refl
no_holes there k (suc n) set =
    let here : there k ≡ true = set k (omega arith) (omega arith) in
    rw here (no_holes there (k + 1) n (λ j low high. set j (omega arith) (omega arith)))

abbrev behind : (ℕ → Bool) → ℕ → ℕ → List (ℕ × ℕ)
behind there to last = holes there (last + 1) (to - (last + 1))

-- the first hole begins after the id k
later : (there : ℕ → Bool) (k to first last : ℕ) → k < first → IsLowestHole there k to (first, last) → IsLowestHole there (k + 1) to (first, last)
later there k to first last more h = record {
  hole = record { begins = omega arith; rises = h.hole.rises; ends = h.hole.ends; clear = h.hole.clear; before = λ less. h.hole.before (omega arith); after = h.hole.after };
  lowest = λ j low high. h.lowest j (omega arith) high;
}

-- the first hole without its first id
shorter : (there : ℕ → Bool) (k to last : ℕ) → k < last → IsLowestHole there k to (k, last) → IsLowestHole there (k + 1) to (k + 1, last)
shorter there k to last more h = record {
  hole = record { begins = omega arith; rises = omega arith; ends = h.hole.ends; clear = λ j low high. h.hole.clear j (omega arith) high; before = λ less. absurd (omega arith); after = h.hole.after };
  lowest = λ j low high. absurd (omega arith);
}

-- the ids in question are k and those from k + 1 on, of which this is known
abbrev Heads : (ℕ → Bool) → ℕ → ℕ → ℕ → Type 0
Heads there k n to =
    (first last : ℕ) → IsLowestHole there k to (first, last) → holes there k n ≡ (first, last) ∷ behind there to last

-- the first hole is the id k alone
head_is_lone : (there : ℕ → Bool) (k n to : ℕ) → k + suc n ≡ to → IsLowestHole there k to (k, k) → with_id k (holes there (k + 1) n) ≡ (k, k) ∷ behind there to k
head_is_lone there k n to len h =
    let set : 0 < n → there (k + 1) ≡ true = λ some. h.hole.after (omega arith) in
    let next : k + 1 + 1 ≡ k + 2 = omega arith in
    let rest : n ≡ to - (k + 1) = omega arith in
    let rising : AreRising (k + 2) (holes there (k + 1) n) = subst (λ (low : ℕ). AreRising low (holes there (k + 1) n)) next (holes_behind there (k + 1) n set) in
    with_id-lone k (holes there (k + 1) n) rising ∙ ap (λ (m : ℕ). (k, k) ∷ holes there (k + 1) m) rest

-- the first hole begins with the id k
head_begins : (there : ℕ → Bool) (k n to last : ℕ) → k + suc n ≡ to → Heads there (k + 1) n to → IsLowestHole there k to (k, last) → with_id k (holes there (k + 1) n) ≡ (k, last) ∷ behind there to last
head_begins there k n to last len rest h = go (cases_order k last) where
  go : (k ≡ last) ⊎ ((k < last) ⊎ (last < k)) → with_id k (holes there (k + 1) n) ≡ (k, last) ∷ behind there to last
  go (inl end) = subst (λ (l : ℕ). with_id k (holes there (k + 1) n) ≡ (k, l) ∷ behind there to l) end
      (head_is_lone there k n to len (subst (λ (l : ℕ). IsLowestHole there k to (k, l)) (sym end) h))
  go (inr (inl more)) = rw (rest (k + 1) last (shorter there k to last more h)) (with_id-joined k last (behind there to last))
  go (inr (inr less)) = absurd (omega (arith, h.hole.rises))

head_of_more : (there : ℕ → Bool) (k n to first last : ℕ) → k + suc n ≡ to → Heads there (k + 1) n to → IsLowestHole there k to (first, last) → holes there k (suc n) ≡ (first, last) ∷ behind there to last
head_of_more there k n to first last len rest h = go (cases_order k first) where
  clear_here : k ≡ first → there k ≡ false
  clear_here same = h.hole.clear k (omega arith) (omega (arith, h.hole.rises))

  go : (k ≡ first) ⊎ ((k < first) ⊎ (first < k)) → holes there k (suc n) ≡ (first, last) ∷ behind there to last
  go (inl same) = rw (clear_here same)
      (subst (λ (f : ℕ). with_id k (holes there (k + 1) n) ≡ (f, last) ∷ behind there to last) same
      (head_begins there k n to last len rest (subst (λ (f : ℕ). IsLowestHole there k to (f, last)) (sym same) h)))
  go (inr (inl more)) = rw (h.lowest k (omega arith) more) (rest first last (later there k to first last more h))
  go (inr (inr less)) = absurd (omega (arith, h.hole.begins))

lowest_heads : (there : ℕ → Bool) (k n to : ℕ) → k + n ≡ to → Heads there k n to
lowest_heads there k zero to len first last h = absurd (omega (arith, h.hole.begins, h.hole.rises, h.hole.ends))
lowest_heads there k (suc n) to len first last h =
    head_of_more there k n to first last len (lowest_heads there (k + 1) n to (omega arith)) h

-- the first hole heads the list, and behind it come the holes of the ids behind it
pub holes_begin_with_first : HolesBeginWithFirst
holes_begin_with_first there from to None h =
    no_holes there from (to - from) (λ j low high. h j low (omega arith))
holes_begin_with_first there from to (Some r) h =
    lowest_heads there from (to - from) to (omega (arith, h.hole.begins, h.hole.rises, h.hole.ends)) r.0 r.1 h
