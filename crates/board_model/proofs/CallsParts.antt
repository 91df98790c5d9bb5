-- What is done with each of several places, in order.
use Rattle.std.proofs.Common.{◌≡◌, ◌≢◌, ℕ, ◌+◌, ◌≤◌, ◌<◌, List, [], ◌∷◌, ◌++◌, length, take, get_or, Option, Err, sym, ap, subst, ◌∙◌, arith}
use Rattle.std.proofs.lemmas.List.{take_more, take_all}
use Rattle.gentl_types.specs.declared.word.Word.{Word}
use Rattle.gev_types.specs.Filling.{Filling}
use Rattle.board_machine.specs.declared.events.Event.TheVariants.{Enrol, Lay, Pool}
use Rattle.board_machine.specs.Places.{same, times}
use Rattle.board_machine.specs.Machine.{Board, hand, InHand}
use Rattle.board_machine.specs.Adding.{AddsEntry, AddsOf}
use Rattle.board_machine.proofs.Places.{same_self, times_take, times_more}
use Rattle.board_machine.proofs.Adding.{adds_more, adds_step}
use Rattle.board_calls.specs.Rounds.{lays, pools, LaysEach, PoolsEach, RefusedBelow}
use Rattle.board_calls.proofs.Lists.{lays-append, pools-append, refused_more}
use Rattle.board_model.specs.Plain.{nothing, lying}
use Rattle.board_model.specs.Holdings.{AreInHand, CameToHand, LeftHand, HaveBufs}
use Rattle.board_model.proofs.Collected.{times_at}

pub lays_more : (b mid new : Board) (k n : ℕ) (is : List ℕ) → n < length is → AddsOf b k (LaysEach (take n is)) mid → AddsEntry mid k (Lay (get_or is n 0)) new → AddsOf b k (LaysEach (take (n + 1) is)) new
lays_more b mid new k n is within before step =
    subst (λ (js : List ℕ). AddsOf b k (LaysEach js) new) (sym (take_more is n 0 within))
    (adds_more b mid new k (LaysEach (take n is)) (LaysEach (get_or is n 0 ∷ [])) (LaysEach (take n is ++ get_or is n 0 ∷ []))
    (λ es fs first second. ap (λ gs. gs ++ fs) first ∙ ap (λ gs. lays (take n is) ++ gs) second ∙ sym (lays-append (take n is) (get_or is n 0 ∷ [])))
    before (adds_step mid new k (Lay (get_or is n 0)) tt step))

pub pools_more : (b mid new : Board) (k n : ℕ) (is : List ℕ) → n < length is → AddsOf b k (PoolsEach (take n is)) mid → AddsEntry mid k (Pool (get_or is n 0)) new → AddsOf b k (PoolsEach (take (n + 1) is)) new
pools_more b mid new k n is within before step =
    subst (λ (js : List ℕ). AddsOf b k (PoolsEach js) new) (sym (take_more is n 0 within))
    (adds_more b mid new k (PoolsEach (take n is)) (PoolsEach (get_or is n 0 ∷ [])) (PoolsEach (take n is ++ get_or is n 0 ∷ []))
    (λ es fs first second. ap (λ gs. gs ++ fs) first ∙ ap (λ gs. pools (take n is) ++ gs) second ∙ sym (pools-append (take n is) (get_or is n 0 ∷ [])))
    before (adds_step mid new k (Pool (get_or is n 0)) tt step))

pub left_none : (b : Board) (k : ℕ) → LeftHand b k [] b
left_none b k = record { there = λ i. omega arith }

pub left_more : (b mid new : Board) (k n : ℕ) (is : List ℕ) → n < length is → LeftHand b k (take n is) mid → ((j : ℕ) → same j (get_or is n 0) + times j (hand new k) ≡ times j (hand mid k)) → LeftHand b k (take (n + 1) is) new
left_more b mid new k n is within left one = record { there = λ j. omega (arith, times_more j n is within, left.there j, one j) }

-- the next place is still in hand
pub next_in_hand : (b mid : Board) (k n : ℕ) (is : List ℕ) → n < length is → AreInHand b k is → LeftHand b k (take n is) mid → InHand mid k (get_or is n 0)
next_in_hand b mid k n is within mine left =
    omega (arith, times_more (get_or is n 0) n is within, times_take (get_or is n 0) (n + 1) is, left.there (get_or is n 0), mine.there (get_or is n 0), same_self (get_or is n 0))

pub next_has : (old new : List (Option Filling)) (n : ℕ) (is : List ℕ) → n < length is → HaveBufs old is → new ≡ old → lying new (get_or is n 0) ≢ nothing
next_has old new n is within have e none = have.there (get_or is n 0) (times_at n is within) (ap (λ c. lying c (get_or is n 0)) (sym e) ∙ none)

-- after the last place
pub lays_whole : (b new : Board) (k n : ℕ) (is : List ℕ) → length is ≤ n → AddsOf b k (LaysEach (take n is)) new → AddsOf b k (LaysEach is) new
lays_whole b new k n is past adds = subst (λ (js : List ℕ). AddsOf b k (LaysEach js) new) (take_all n is past) adds

pub pools_whole : (b new : Board) (k n : ℕ) (is : List ℕ) → length is ≤ n → AddsOf b k (PoolsEach (take n is)) new → AddsOf b k (PoolsEach is) new
pools_whole b new k n is past adds = subst (λ (js : List ℕ). AddsOf b k (PoolsEach js) new) (take_all n is past) adds

pub left_whole : (b new : Board) (k n : ℕ) (is : List ℕ) → length is ≤ n → LeftHand b k (take n is) new → LeftHand b k is new
left_whole b new k n is past left = subst (λ (js : List ℕ). LeftHand b k js new) (take_all n is past) left

-- a swept place is in hand, read as a slice
pub came : (b new : Board) (k : ℕ) (is js : List ℕ) → js ≡ is → CameToHand b k is new → AreInHand new k js
came b new k is js e came_there = record { there = λ i. let equal : times i js ≡ times i is = ap (times i) e in omega (arith, equal, came_there.there i) }

pub came_before : (b mid new : Board) (k : ℕ) (is js ks : List ℕ) → js ≡ is → CameToHand b k is mid → CameToHand mid k ks new → AreInHand new k js
came_before b mid new k is js ks e first second = record { there = λ i. let equal : times i js ≡ times i is = ap (times i) e in omega (arith, equal, first.there i, second.there i) }

-- it still is once the places of another sweep left
pub came_left : (b mid swept new : Board) (k : ℕ) (is js ks ls : List ℕ) → ls ≡ is → js ≡ ks → CameToHand b k is mid → CameToHand mid k ks swept → LeftHand swept k ls new → AreInHand new k js
came_left b mid swept new k is js ks ls e f first second left = record {
  there = λ i. let equal : times i ls ≡ times i is = ap (times i) e in
      let equal_too : times i js ≡ times i ks = ap (times i) f in
      omega (arith, equal, equal_too, first.there i, second.there i, left.there i);
}

pub have_as : (old new : List (Option Filling)) (is js : List ℕ) → js ≡ is → new ≡ old → HaveBufs old is → HaveBufs new js
have_as old new is js e same_contents have = record {
  there = λ i some none. have.there i (subst (λ (ks : List ℕ). 1 ≤ times i ks) e some) (ap (λ c. lying c i) (sym same_contents) ∙ none);
}

pub one_more_refused : (b mid new : Board) (k n size : ℕ) (w : Word) → AddsOf b k (RefusedBelow n size) mid → AddsEntry mid k (Enrol n size (Err w)) new → AddsOf b k (RefusedBelow (n + 1) size) new
one_more_refused b mid new k n size w tried step =
    adds_more b mid new k (RefusedBelow n size) (λ es. es ≡ Enrol n size (Err w) ∷ []) (RefusedBelow (n + 1) size) (refused_more n size w) tried
    (adds_step mid new k (Enrol n size (Err w)) tt step)
