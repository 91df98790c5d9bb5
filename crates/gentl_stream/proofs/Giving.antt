-- What a pass has after it gave away the buffers of several places.
use Rattle.std.proofs.Common.{◌≡◌, ◌≢◌, ◌⊎◌, ℕ, ◌+◌, ◌<◌, ◌≤◌, List, [], length, take, get_or, sym, ap, subst, ◌∙◌, inl, inr, arith}
use Rattle.std.proofs.lemmas.Bool.{cases_eq, cases_lt}
use Rattle.std.proofs.lemmas.List.{take_all}
use Rattle.board_machine.specs.Places.{same, times}
use Rattle.board_machine.proofs.Places.{same_self, same_other, times_take, times_more}
use Rattle.gev_types.specs.Filling.{Filling}
use Rattle.buffer_words.specs.Passes.{Token, slot_at, gone, down, IsWhole, SamePlace, SameHands, Has}
use Rattle.buffer_words.specs.Swept.{GetsAll}
use Rattle.buffer_words.proofs.Partings.{same_then}
use Rattle.buffer_words.proofs.Retries.{hands_self, hands_then_has}
use Rattle.gentl_stream.specs.Announced.{Brings}
use Rattle.gentl_stream.specs.Several.{AreWhole, Leaves}

-- a place that the pass doesn't have, before and after
place_gone : (i : ℕ) (s t : Token) → slot_at s i ≡ gone → slot_at t i ≡ gone → SamePlace i s t
place_gone i s t before after = record { slot = after ∙ sym before; buffer = λ some. absurd (some before) }

pub leaves_none : (s : Token) → Leaves [] s s
leaves_none s = record { given = λ i some. absurd (omega arith); others = λ i none. hands_self s i }

-- the next place isn't among those before it
next_is_new : (n : ℕ) (is : List ℕ) → n < length is → ((i : ℕ) → times i is ≤ 1) → times (get_or is n 0) (take n is) ≡ 0
next_is_new n is within single =
    omega (arith, times_more (get_or is n 0) n is within, times_take (get_or is n 0) (n + 1) is, single (get_or is n 0), same_self (get_or is n 0))

next_is_there : (n : ℕ) (is : List ℕ) → n < length is → 1 ≤ times (get_or is n 0) is
next_is_there n is within =
    omega (arith, times_more (get_or is n 0) n is within, times_take (get_or is n 0) (n + 1) is, same_self (get_or is n 0))

-- the next place is as it was before
pub next_same : (s t : Token) (n : ℕ) (is : List ℕ) → n < length is → AreWhole s is → Leaves (take n is) s t → SamePlace (get_or is n 0) s t
next_same s t n is within whole left = left.others (get_or is n 0) (next_is_new n is within whole.single)

-- so its buffer is still set down
pub next_whole : (s t : Token) (n : ℕ) (is : List ℕ) → n < length is → AreWhole s is → Leaves (take n is) s t → IsWhole t (get_or is n 0)
next_whole s t n is within whole left =
    let there = whole.each (get_or is n 0) (next_is_there n is within) in
    record { filling = there.filling; is = (next_same s t n is within whole left).slot ∙ there.is }

pub leaves_more : (s t u : Token) (n : ℕ) (is : List ℕ) → n < length is → Leaves (take n is) s t → Has (get_or is n 0) gone t u → Leaves (take (n + 1) is) s u
leaves_more s t u n is within left has = record {
  given = λ i some. go i some (cases_eq i (get_or is n 0));
  others = λ i none.
      let before : times i (take n is) ≡ 0 = omega (arith, times_more i n is within) in
      same_then i s t u (left.others i before) (has.others i (apart i none));
}
  where
    go : (i : ℕ) → 1 ≤ times i (take (n + 1) is) → (i ≡ get_or is n 0) ⊎ (i ≢ get_or is n 0) → slot_at u i ≡ gone
    go i some (inl e) = subst (λ k. slot_at u k ≡ gone) (sym e) has.here
    go i some (inr ne) = (has.others i ne).slot ∙ left.given i (omega (arith, times_more i n is within, same_other i (get_or is n 0) ne))

    apart : (i : ℕ) → times i (take (n + 1) is) ≡ 0 → i ≢ get_or is n 0
    apart i none e =
        let one : same i (get_or is n 0) ≡ 1 = ap (λ k. same i k) (sym e) ∙ same_self i in
        absurd (omega (arith, times_more i n is within))

-- after the last place
pub leaves_whole : (s t : Token) (n : ℕ) (is : List ℕ) → length is ≤ n → Leaves (take n is) s t → Leaves is s t
leaves_whole s t n is past left = subst (λ (js : List ℕ). Leaves js s t) (take_all n is past) left

-- the places of a sweep, read as a slice
leaves_as : (s t : Token) (is js : List ℕ) → js ≡ is → Leaves js s t → Leaves is s t
leaves_as s t is js e left = subst (λ (ks : List ℕ). Leaves ks s t) e left

-- what one sweep took in hand was given away
pub gave_back : (s t u : Token) (is js : List ℕ) → js ≡ is → GetsAll is s t → Leaves js t u → SameHands s u
gave_back s t u is js e gets left i = go (cases_lt 0 (times i is))
  where
    given : Leaves is t u
    given = leaves_as t u is js e left

    go : (0 < times i is) ⊎ (times i is ≤ 0) → SamePlace i s u
    go (inl some) = place_gone i s u (gets.all i (omega arith)).new (given.given i (omega arith))
    go (inr none) = let no : times i is ≡ 0 = omega arith in same_then i s t u (gets.others i no) (given.others i no)

-- and what two sweeps took
pub gave_both_back : (s one two mid u : Token) (is js ks ls : List ℕ) → ks ≡ is → ls ≡ js
    → GetsAll is s one → GetsAll js one two → Leaves ks two mid → Leaves ls mid u → SameHands s u
gave_both_back s one two mid u is js ks ls e f gets gets_too left left_too i = go (cases_lt 0 (times i is)) (cases_lt 0 (times i js))
  where
    given : Leaves is two mid
    given = leaves_as two mid is ks e left

    given_too : Leaves js mid u
    given_too = leaves_as mid u js ls f left_too

    go : (0 < times i is) ⊎ (times i is ≤ 0) → (0 < times i js) ⊎ (times i js ≤ 0) → SamePlace i s u
    go (inl some) (inl more) = place_gone i s u (gets.all i (omega arith)).new (given_too.given i (omega arith))
    go (inl some) (inr none) =
        place_gone i s u (gets.all i (omega arith)).new ((given_too.others i (omega arith)).slot ∙ given.given i (omega arith))
    go (inr none) (inl more) =
        place_gone i s u (sym (gets.others i (omega arith)).slot ∙ (gets_too.all i (omega arith)).new) (given_too.given i (omega arith))
    go (inr none) (inr no_more) =
        same_then i s two u (same_then i s one two (gets.others i (omega arith)) (gets_too.others i (omega arith)))
        (same_then i two mid u (given.others i (omega arith)) (given_too.others i (omega arith)))

-- a place that the pass didn't have, and doesn't have now
pub brought_gone : (i : ℕ) (f : Filling) (s t u : Token) → Brings i f s t → Has i gone t u → SameHands s u
brought_gone i f s t u brings left j = go (cases_eq j i)
  where
    go : (j ≡ i) ⊎ (j ≢ i) → SamePlace j s u
    go (inl e) = subst (λ k. SamePlace k s u) (sym e) (place_gone i s u brings.new left.here)
    go (inr ne) = same_then j s t u (brings.has.others j ne) (left.others j ne)

-- the same where others acted before
pub brings_later : (i : ℕ) (f g : Filling) (s t u : Token) → f ≡ g → SameHands s t → slot_at t i ≡ gone → Has i (down f) t u → Brings i g s u
brings_later i f g s t u e same new has = record {
  new = sym (same i).slot ∙ new;
  has = subst (λ (h : Filling). Has i (down h) s u) e (hands_then_has i (down f) s t u same has);
}
