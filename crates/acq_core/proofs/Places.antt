-- Where an open block stands among the slots.
use Rattle.std.proofs.Common.{◌≡◌, ◌≢◌, ℕ, suc, ◌+◌, ◌<◌, ◌≤◌, List, [], ◌∷◌, length, get_or, cond, Bool, true, false, refl, sym, subst, ◌∙◌, arith}
use Rattle.std.specs.Prelude.{◌==◌, nat_lt, not, position, slice_set, Some, None}
use Rattle.std.specs.List.{prefix_len}
use Rattle.std.proofs.lemmas.Bool.{eq-eqb, ne_eqb, eqb-true, eqb-false, le-ltb, ltb-true, ltb-false}
use Rattle.acquisition_machine.specs.Blocks.{Open}
use Rattle.acquisition_machine.specs.Machine.{open_at, put}
use Rattle.acquisition_machine.specs.Sound.{RiseFrom}
use Rattle.acquisition_machine.proofs.Order.{IsFound, Finds, find, rise_at}
use Rattle.acq_core.specs.declared.slot.Slot.{Slot}
use Rattle.acq_core.specs.Standing.{SlotStands, SlotsStand}

-- The block with this id stands there, and a slot in its place stands for another block in its place.
pub record IsAt (p b n : ℕ) (xs : List Slot) (os : List Open) : Type 0 where
  pub block : Open
  pub is : open_at b os ≡ Some block
  pub slot : (d : Slot) → SlotStands p (get_or xs n d) block
  pub swapped : (y : Slot) (m : Open) → SlotStands p y m → m.block ≡ b → SlotsStand p (slice_set xs n y) (put m os)

-- an open block lies above the lowest id
found_above : (b low : ℕ) (os : List Open) (o : Open) → RiseFrom low os → open_at b os ≡ Some o → low ≤ b
found_above b low os o r is =
    let f : IsFound b os o = subst (λ x. Finds b os x) is (find b low os r) in
    let above : low ≤ o.block = rise_at low f.front o f.back (subst (λ l. RiseFrom low l) f.parts r) in
    omega (arith, above, f.of_block)

at_first : (p b : ℕ) (x : Slot) (xs : List Slot) (o : Open) (os : List Open) → SlotStands p x o → SlotsStand p xs os → x.block ≡ b → IsAt p b 0 (x ∷ xs) (o ∷ os)
at_first p b x xs o os s ss e =
    let same : o.block ≡ b = sym s.block ∙ e in
    record {
      block = o;
      is = rw (eq-eqb o.block b same) refl;
      slot = λ d. s;
      swapped = λ y m t k.
          let here : m.block ≡ o.block = k ∙ sym same in
          let above : o.block ≤ m.block = omega arith in
          rw (le-ltb m.block o.block above, eq-eqb m.block o.block here) (t, ss);
    }

at_later : (p b n : ℕ) (x : Slot) (xs : List Slot) (o : Open) (os : List Open) → SlotStands p x o → RiseFrom (o.block + 1) os → x.block ≢ b → IsAt p b n xs os → IsAt p b (suc n) (x ∷ xs) (o ∷ os)
at_later p b n x xs o os s r e a =
    let other : o.block ≢ b = λ k. e (s.block ∙ k) in
    let later = found_above b (o.block + 1) os a.block r a.is in
    record {
      block = a.block;
      is = rw (ne_eqb o.block b other) a.is;
      slot = a.slot;
      swapped = λ y m t k.
          let above : o.block ≤ m.block = omega arith in
          let apart : m.block ≢ o.block = λ same. other (sym same ∙ k) in
          rw (le-ltb m.block o.block above, ne_eqb m.block o.block apart) (s, a.swapped y m t k);
    }

at_step : (p b n : ℕ) (x : Slot) (xs : List Slot) (o : Open) (os : List Open) (v : Bool) → (x.block == b) ≡ v → SlotStands p x o → SlotsStand p xs os → RiseFrom (o.block + 1) os → cond (not v) (1 + n) 0 < suc (length xs) → (n < length xs → IsAt p b n xs os) → IsAt p b (cond (not v) (1 + n) 0) (x ∷ xs) (o ∷ os)
at_step p b n x xs o os true e s ss r l f = at_first p b x xs o os s ss (eqb-true x.block b e)
at_step p b n x xs o os false e s ss r l f =
    let less : n < length xs = omega arith in
    let next : suc n ≡ 1 + n = omega arith in
    subst (λ k. IsAt p b k (x ∷ xs) (o ∷ os)) next (at_later p b n x xs o os s r (eqb-false x.block b e) (f less))

pub at_place : (p b low : ℕ) (xs : List Slot) (os : List Open) → SlotsStand p xs os → RiseFrom low os → prefix_len (λ x. not (x.block == b)) xs < length xs → IsAt p b (prefix_len (λ x. not (x.block == b)) xs) xs os
at_place p b low [] os s r l = absurd (omega arith)
at_place p b low (x ∷ xs) [] s r l = absurd s
at_place p b low (x ∷ xs) (o ∷ os) s r l =
    at_step p b (prefix_len (λ x. not (x.block == b)) xs) x xs o os (x.block == b) refl s.0 s.1 r.1 l
    (λ less. at_place p b (o.block + 1) xs os s.1 r.1 less)

none_step : (b n : ℕ) (x : Slot) (o : Open) (os : List Open) (k : ℕ) (v : Bool) → (x.block == b) ≡ v → x.block ≡ o.block → suc k ≤ cond (not v) (1 + n) 0 → (k ≤ n → open_at b os ≡ None) → open_at b (o ∷ os) ≡ None
none_step b n x o os k true e same l f = absurd (omega arith)
none_step b n x o os k false e same l f =
    let other : o.block ≢ b = λ i. eqb-false x.block b e (same ∙ i) in
    let less : k ≤ n = omega arith in
    rw (ne_eqb o.block b other) (f less)

pub no_place : (p b : ℕ) (xs : List Slot) (os : List Open) → SlotsStand p xs os → length xs ≤ prefix_len (λ x. not (x.block == b)) xs → open_at b os ≡ None
no_place p b [] [] s l = refl
no_place p b [] (o ∷ os) s l = absurd s
no_place p b (x ∷ xs) [] s l = absurd s
no_place p b (x ∷ xs) (o ∷ os) s l =
    none_step b (prefix_len (λ x. not (x.block == b)) xs) x o os (length xs) (x.block == b) refl s.0.block l (λ less. no_place p b xs os s.1 less)

-- what a search answers

pub some_step : (n len at : ℕ) (v : Bool) → nat_lt n len ≡ v → cond v (Some n) None ≡ Some at → (n ≡ at) × (n < len)
some_step n len at true e is = (cc, ltb-true n len e)
some_step n len at false e is = absurd cc

pub none_at : (n len : ℕ) (v : Bool) → nat_lt n len ≡ v → cond v (Some n) None ≡ None → len ≤ n
none_at n len true e is = absurd cc
none_at n len false e is = ltb-false n len e

pub at_found : (p b low at : ℕ) (xs : List Slot) (os : List Open) → SlotsStand p xs os → RiseFrom low os → position (λ x. x.block == b) xs ≡ Some at → IsAt p b at xs os
at_found p b low at xs os s r is =
    let n : ℕ = prefix_len (λ (x : Slot). not (x.block == b)) xs in
    let found = some_step n (length xs) at (nat_lt n (length xs)) refl is in
    subst (λ k. IsAt p b k xs os) found.0 (at_place p b low xs os s r found.1)

pub found_none : (p b : ℕ) (xs : List Slot) (os : List Open) → SlotsStand p xs os → position (λ x. x.block == b) xs ≡ None → open_at b os ≡ None
found_none p b xs os s is =
    let n : ℕ = prefix_len (λ (x : Slot). not (x.block == b)) xs in
    no_place p b xs os s (none_at n (length xs) (nat_lt n (length xs)) refl is)
