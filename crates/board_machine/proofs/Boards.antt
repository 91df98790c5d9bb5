-- The words and the hands of a board after one of them changed.
use Rattle.std.proofs.Common.{◌≡◌, ◌≢◌, ℕ, zero, suc, ◌+◌, ◌≤◌, ◌<◌, List, [], ◌∷◌, ◌++◌, length, get_or, set, Option, refl, ap, inl, inr, ◌⊎◌, arith}
use Rattle.board_machine.specs.Places.{times}
use Rattle.std.proofs.lemmas.Bool.{cases_lt}
use Rattle.std.proofs.lemmas.List.{get_or_past}
use Rattle.board_machine.specs.Machine.{Board, no_actor, empty_hands, held, hand, hand_at, IsActor, InHand}
use Rattle.board_machine.specs.Owners.{in_hands}

-- how often place i stands in the k-th hand of a list of hands
abbrev pub in_hand_of : ℕ → List (Option (List ℕ)) → ℕ → ℕ
in_hand_of i hs k = times i (held (get_or hs k no_actor))

pub in_hands-set : (i : ℕ) (hs : List (Option (List ℕ))) (k : ℕ) (h : Option (List ℕ)) → k < length hs → in_hands i (set hs k h) + in_hand_of i hs k ≡ in_hands i hs + times i (held h)
in_hands-set i [] k h within = absurd (omega arith)
in_hands-set i (x ∷ hs) zero h within = omega arith
in_hands-set i (x ∷ hs) (suc k) h within = let less : k < length hs = omega arith in omega (arith, in_hands-set i hs k h less)

pub in_hands-push : (i : ℕ) (hs : List (Option (List ℕ))) (h : Option (List ℕ)) → in_hands i (hs ++ h ∷ []) ≡ in_hands i hs + times i (held h)
in_hands-push i [] h = omega arith
in_hands-push i (x ∷ hs) h = omega (arith, in_hands-push i hs h)

pub in_hand_of-le : (i : ℕ) (hs : List (Option (List ℕ))) (k : ℕ) → in_hand_of i hs k ≤ in_hands i hs
in_hand_of-le i [] k = omega arith
in_hand_of-le i (x ∷ hs) zero = omega arith
in_hand_of-le i (x ∷ hs) (suc k) = omega (arith, in_hand_of-le i hs k)

-- two hands together hold no more than all
pub two_hands : (i : ℕ) (hs : List (Option (List ℕ))) (k n : ℕ) → k ≢ n → in_hand_of i hs k + in_hand_of i hs n ≤ in_hands i hs
two_hands i [] k n apart = omega arith
two_hands i (x ∷ hs) zero zero apart = absurd (apart refl)
two_hands i (x ∷ hs) zero (suc n) apart = omega (arith, in_hand_of-le i hs n)
two_hands i (x ∷ hs) (suc k) zero apart = omega (arith, in_hand_of-le i hs k)
two_hands i (x ∷ hs) (suc k) (suc n) apart = omega (arith, two_hands i hs k n (λ e. apart (ap suc e)))

pub in_no_hands : (i : ℕ) (hs : List (Option (List ℕ))) → ((k : ℕ) → in_hand_of i hs k ≡ 0) → in_hands i hs ≡ 0
in_no_hands i [] none = refl
in_no_hands i (x ∷ hs) none = let first : times i (held x) ≡ 0 = none zero in omega (arith, in_no_hands i hs (λ k. none (suc k)))

pub in_one_hand : (i : ℕ) (hs : List (Option (List ℕ))) (k : ℕ) → in_hand_of i hs k ≡ 1 → ((n : ℕ) → n ≢ k → in_hand_of i hs n ≡ 0) → in_hands i hs ≡ 1
in_one_hand i [] k once others = absurd (omega arith)
in_one_hand i (x ∷ hs) zero once others =
    omega (arith, in_no_hands i hs (λ n. others (suc n) (λ e. let bad : suc n ≡ 0 = e in omega arith)))
in_one_hand i (x ∷ hs) (suc k) once others =
    let first : times i (held x) ≡ 0 = others zero (λ e. let bad : 0 ≡ suc k = e in omega arith) in
    omega (arith, in_one_hand i hs k once (λ n apart. others (suc n) (λ e. apart (omega (arith, e)))))

-- the k-th hand has the place, or a later one has
one_more_hand : (i : ℕ) (x : Option (List ℕ)) (hs : List (Option (List ℕ))) → (1 ≤ times i (held x)) ⊎ ((k : ℕ) × (1 ≤ in_hand_of i hs k)) → (k : ℕ) × (1 ≤ in_hand_of i (x ∷ hs) k)
one_more_hand i x hs (inl here) = (zero, here)
one_more_hand i x hs (inr found) = (suc found.0, found.1)

-- what stands in the hands stands in some hand
pub some_hand : (i : ℕ) (hs : List (Option (List ℕ))) → 1 ≤ in_hands i hs → (k : ℕ) × (1 ≤ in_hand_of i hs k)
some_hand i [] h = absurd (omega arith)
some_hand i (x ∷ hs) h = one_more_hand i x hs (go (λ more. some_hand i hs more) (cases_lt 0 (times i (held x))))
  where
    go : (1 ≤ in_hands i hs → (k : ℕ) × (1 ≤ in_hand_of i hs k)) → (0 < times i (held x)) ⊎ (times i (held x) ≤ 0) → (1 ≤ times i (held x)) ⊎ ((k : ℕ) × (1 ≤ in_hand_of i hs k))
    go later (inl here) = inl (omega arith)
    go later (inr none) = inr (later (omega arith))

-- an actor has a number below the count of hands
pub actor_within : (b : Board) (k : ℕ) → IsActor b k → k < length b.hands
actor_within b k actor = go (cases_lt k (length b.hands))
  where
    go : (k < length b.hands) ⊎ (length b.hands ≤ k) → k < length b.hands
    go (inl within) = within
    go (inr past) = absurd (actor (get_or_past b.hands k no_actor past))

-- who has empty hands is an actor
pub empty_is_actor : (b : Board) (k : ℕ) → hand_at b k ≡ empty_hands → IsActor b k
empty_is_actor b k e none = cc

-- who has a place in hand is an actor
pub holder_is_actor : (b : Board) (k i : ℕ) → InHand b k i → IsActor b k
holder_is_actor b k i h none = let nothing : times i (hand b k) ≡ 0 = ap (λ o. times i (held o)) none in omega arith
