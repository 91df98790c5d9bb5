-- The pool and each actor's hands are rising lists, so the pool's first place is its lowest.
use Rattle.std.proofs.Common.{◌≡◌, ◌≢◌, ℕ, zero, suc, ◌+◌, ◌≤◌, ◌<◌, ◌==◌, nat_le, true, false, List, [], ◌∷◌, get_or, set, Some, None, Ok, Err, sym, ap, subst, ◌∙◌, inl, inr, ◌⊎◌, arith, leb-true, leb-false, eqb-true}
use Rattle.std.proofs.lemmas.Bool.{cond_both, cases_eq, cases_lt}
use Rattle.std.proofs.lemmas.List.{get_or-set_same}
use Rattle.board_machine.specs.declared.events.Entry.{Entry}
use Rattle.board_machine.specs.declared.events.Event.{Event}
use Rattle.board_machine.specs.declared.events.Event.TheVariants.{Look, LookPool, LookOut, LookRun, Enrol, Grab, Lay, Vacate, Pool, Claim, SweepPool, Fill, Take, SweepOut, Close, Post, Unpost, Start, Stop, Split, Join}
use Rattle.board_machine.specs.declared.events.TakeEnd.TheVariants.{Taken, Empty, Closed}
use Rattle.board_machine.specs.Places.{same, times, put_in, without, put_all, tail, IsBelowFirst, IsRising}
use Rattle.board_machine.specs.Machine.{Board, word_at, hand, held, places, no_actor, empty_hands, empty_board, IsActor, Meets, CanBeNext, after_event, next}
use Rattle.board_machine.specs.Histories.{after_from, RunsFrom, After, Run}
use Rattle.board_machine.specs.Owners.{tally, due, in_hands, IsCounted}
use Rattle.board_machine.specs.Laws.{AreRising}
use Rattle.board_machine.proofs.Places.{same_self, same_is, times-put_all}
use Rattle.board_machine.proofs.Boards.{in_hand_of-le, actor_within}
use Rattle.board_machine.proofs.Counts.{due_le}
use Rattle.board_machine.proofs.Others.{other_hand, hand_before, hand_stays}
use Rattle.board_machine.proofs.Keeps.{keeps_next, empty_owned}

-- what is below the first of a rising list is below each of its places
pub below_all : (i j : ℕ) (xs : List ℕ) → IsBelowFirst i xs → IsRising xs → 1 ≤ times j xs → i < j
below_all i j [] below rising some = absurd (omega arith)
below_all i j (x ∷ xs) below rising some = go (cases_eq j x) (λ more. below_all x j xs rising.0 rising.1 more)
  where
    go : (j ≡ x) ⊎ (j ≢ x) → (1 ≤ times j xs → x < j) → i < j
    go (inl e) later = omega (arith, below, e)
    go (inr apart) later = omega (arith, below, later (cond_both (j == x) 1 0 (λ n. 1 ≤ n + times j xs → 1 ≤ times j xs) (λ e. absurd (apart (eqb-true j x e))) (λ e h. omega (arith, h)) some))

below_put : (x i : ℕ) (xs : List ℕ) → IsBelowFirst x xs → x < i → IsBelowFirst x (put_in i xs)
below_put x i [] below above = above
below_put x i (y ∷ xs) below above =
    cond_both (nat_le i y) (i ∷ y ∷ xs) (y ∷ put_in i xs) (λ ys. IsBelowFirst x ys) (λ e. above) (λ e. below)

pub rising_put : (i : ℕ) (xs : List ℕ) → times i xs ≡ 0 → IsRising xs → IsRising (put_in i xs)
rising_put i [] none rising = (tt, tt)
rising_put i (x ∷ xs) none rising =
    cond_both (nat_le i x) (i ∷ x ∷ xs) (x ∷ put_in i xs) (λ ys. IsRising ys)
    (λ e. (strictly (leb-true i x e), rising))
    (λ e. (below_put x i xs rising.0 (leb-false i x e), rising_put i xs (omega arith) rising.1))
  where
    strictly : i ≤ x → i < x
    strictly le = apart_below (cases_eq i x)
      where
        apart_below : (i ≡ x) ⊎ (i ≢ x) → i < x
        apart_below (inl e) =
            let one : same i x ≡ 1 = sym (ap (λ y. same i y) e) ∙ same_self i in
            absurd (omega (arith, none))
        apart_below (inr apart) = omega (arith, le, apart)

below_without : (x i : ℕ) (xs : List ℕ) → IsBelowFirst x xs → IsRising xs → IsBelowFirst x (without i xs)
below_without x i [] below rising = tt
below_without x i (y ∷ xs) below rising =
    cond_both (i == y) xs (y ∷ without i xs) (λ ys. IsBelowFirst x ys) (λ e. lower x y xs below rising.0) (λ e. below)
  where
    lower : (x y : ℕ) (xs : List ℕ) → x < y → IsBelowFirst y xs → IsBelowFirst x xs
    lower x y [] below above = tt
    lower x y (z ∷ xs) below above = omega (arith, below, above)

pub rising_without : (i : ℕ) (xs : List ℕ) → IsRising xs → IsRising (without i xs)
rising_without i [] rising = tt
rising_without i (x ∷ xs) rising =
    cond_both (i == x) xs (x ∷ without i xs) (λ ys. IsRising ys)
    (λ e. rising.1)
    (λ e. (below_without x i xs rising.0 rising.1, rising_without i xs rising.1))

pub rising_put_all : (is js : List ℕ) → ((i : ℕ) → times i is + times i js ≤ 1) → IsRising js → IsRising (put_all is js)
rising_put_all [] js once rising = rising
rising_put_all (i ∷ is) js once rising =
    rising_put i (put_all is js)
    (omega (arith, times-put_all i is js, once i, same_self i))
    (rising_put_all is js (λ j. omega (arith, once j)) rising)

pub rising_tail : (xs : List ℕ) → IsRising xs → IsRising (tail xs)
rising_tail [] rising = tt
rising_tail (x ∷ xs) rising = rising.1

-- an actor's hand after it was set
own_hand : (b : Board) (k : ℕ) (is : List ℕ) → IsActor b k → held (get_or (set b.hands k (Some is)) k no_actor) ≡ is
own_hand b k is actor = ap held (get_or-set_same b.hands k (Some is) no_actor (actor_within b k actor))

own_rising : (b : Board) (k : ℕ) (is : List ℕ) → IsActor b k → IsRising is → IsRising (held (get_or (set b.hands k (Some is)) k no_actor))
own_rising b k is actor rising = subst (λ js. IsRising js) (sym (own_hand b k is actor)) rising

-- a place comes into the hand that stands in none
picked : (b : Board) (k i : ℕ) → IsActor b k → AreRising b → in_hands i b.hands ≡ 0 → IsRising (held (get_or (set b.hands k (Some (put_in i (hand b k)))) k no_actor))
picked b k i actor rising none =
    own_rising b k (put_in i (hand b k)) actor (rising_put i (hand b k) (omega (arith, in_hand_of-le i b.hands k)) (rising.hands k))

dropped : (b : Board) (k i : ℕ) → IsActor b k → AreRising b → IsRising (held (get_or (set b.hands k (Some (without i (hand b k)))) k no_actor))
dropped b k i actor rising = own_rising b k (without i (hand b k)) actor (rising_without i (hand b k) (rising.hands k))

swept : (b : Board) (k : ℕ) (is : List ℕ) → IsActor b k → AreRising b → ((i : ℕ) → times i is + in_hands i b.hands ≤ 1) → IsRising (held (get_or (set b.hands k (Some (put_all is (hand b k)))) k no_actor))
swept b k is actor rising once =
    own_rising b k (put_all is (hand b k)) actor
    (rising_put_all is (hand b k) (λ i. omega (arith, once i, in_hand_of-le i b.hands k)) (rising.hands k))

tally_le : (b : Board) (i : ℕ) → IsCounted b → tally b i ≤ 1
tally_le b i owned = omega (arith, owned.once i, due_le (word_at b i).state)

not_in_hands : (b : Board) (i : ℕ) → IsCounted b → due (word_at b i).state ≡ 0 → in_hands i b.hands ≡ 0
not_in_hands b i owned none = omega (arith, owned.once i)

claimed_apart : (b : Board) (i : ℕ) (rest : List ℕ) → IsCounted b → b.pool ≡ i ∷ rest → in_hands i b.hands ≡ 0
claimed_apart b i rest owned first =
    let some : times i b.pool ≡ same i i + times i rest = ap (λ is. times i is) first in
    omega (arith, tally_le b i owned, same_self i)

taken_apart : (b : Board) (i : ℕ) (rest : List ℕ) → IsCounted b → places b.out ≡ i ∷ rest → in_hands i b.hands ≡ 0
taken_apart b i rest owned first =
    let some : times i (places b.out) ≡ same i i + times i rest = ap (λ is. times i is) first in
    omega (arith, tally_le b i owned, same_self i)

swept_once : (b : Board) (is js : List ℕ) (i : ℕ) → is ≡ js → times i js + in_hands i b.hands ≤ 1 → times i is + in_hands i b.hands ≤ 1
swept_once b is js i all once = let e : times i is ≡ times i js = ap (λ ks. times i ks) all in omega arith

-- the acting actor's hand stays rising
hand_rises : (b : Board) (k : ℕ) (event : Event) → IsCounted b → AreRising b → IsActor b k → Meets b k event → IsRising (hand (after_event b k event) k)
hand_rises b k (Look i w) owned rising actor m = rising.hands k
hand_rises b k (LookPool is) owned rising actor m = rising.hands k
hand_rises b k (LookOut is closed) owned rising actor m = rising.hands k
hand_rises b k (LookRun r) owned rising actor m = rising.hands k
hand_rises b k (Enrol i size (Ok g)) owned rising actor m = picked b k i actor rising (not_in_hands b i owned (ap due m.3.0))
hand_rises b k (Enrol i size (Err w)) owned rising actor m = rising.hands k
hand_rises b k (Grab i g (Ok done)) owned rising actor m = picked b k i actor rising (not_in_hands b i owned (ap due m.1.0))
hand_rises b k (Grab i g (Err w)) owned rising actor m = rising.hands k
hand_rises b k (Lay i) owned rising actor m = dropped b k i actor rising
hand_rises b k (Vacate i) owned rising actor m = dropped b k i actor rising
hand_rises b k (Pool i) owned rising actor m = dropped b k i actor rising
hand_rises b k (Claim (Some i)) owned rising actor m = picked b k i actor rising (claimed_apart b i m.0 owned m.1)
hand_rises b k (Claim None) owned rising actor m = rising.hands k
hand_rises b k (SweepPool is) owned rising actor m =
    swept b k is actor rising (λ i. swept_once b is b.pool i m (omega (arith, tally_le b i owned)))
hand_rises b k (Fill i f true) owned rising actor m = dropped b k i actor rising
hand_rises b k (Fill i f false) owned rising actor m = rising.hands k
hand_rises b k (Take (Taken i)) owned rising actor m = picked b k i actor rising (taken_apart b i (places m.1.1) owned (ap places m.1.2))
hand_rises b k (Take Empty) owned rising actor m = rising.hands k
hand_rises b k (Take Closed) owned rising actor m = rising.hands k
hand_rises b k (SweepOut is) owned rising actor m =
    swept b k is actor rising (λ i. swept_once b is (places b.out) i m (omega (arith, tally_le b i owned)))
hand_rises b k Close owned rising actor m = rising.hands k
hand_rises b k Post owned rising actor m = rising.hands k
hand_rises b k (Unpost stood) owned rising actor m = rising.hands k
hand_rises b k (Start (Ok done)) owned rising actor m = rising.hands k
hand_rises b k (Start (Err r)) owned rising actor m = rising.hands k
hand_rises b k (Stop kill (Ok done)) owned rising actor m = rising.hands k
hand_rises b k (Stop kill (Err r)) owned rising actor m = rising.hands k
hand_rises b k (Split n) owned rising actor m =
    subst (λ h. IsRising (held h)) (sym (hand_before b.hands k empty_hands (actor_within b k actor))) (rising.hands k)
hand_rises b k (Join n) owned rising actor m =
    subst (λ h. IsRising (held h)) (sym (other_hand b.hands n k no_actor (λ e. m.1 (sym e)))) (rising.hands k)

-- the pool stays rising
pool_rises : (b : Board) (k : ℕ) (event : Event) → IsCounted b → AreRising b → Meets b k event → IsRising (after_event b k event).pool
pool_rises b k (Look i w) owned rising m = rising.pool
pool_rises b k (LookPool is) owned rising m = rising.pool
pool_rises b k (LookOut is closed) owned rising m = rising.pool
pool_rises b k (LookRun r) owned rising m = rising.pool
pool_rises b k (Enrol i size (Ok g)) owned rising m = rising.pool
pool_rises b k (Enrol i size (Err w)) owned rising m = rising.pool
pool_rises b k (Grab i g (Ok done)) owned rising m = rising.pool
pool_rises b k (Grab i g (Err w)) owned rising m = rising.pool
pool_rises b k (Lay i) owned rising m = rising.pool
pool_rises b k (Vacate i) owned rising m = rising.pool
pool_rises b k (Pool i) owned rising m =
    rising_put i b.pool (omega (arith, tally_le b i owned, in_hand_of-le i b.hands k, m)) rising.pool
pool_rises b k (Claim (Some i)) owned rising m = rising_tail b.pool rising.pool
pool_rises b k (Claim None) owned rising m = rising.pool
pool_rises b k (SweepPool is) owned rising m = tt
pool_rises b k (Fill i f true) owned rising m = rising.pool
pool_rises b k (Fill i f false) owned rising m = rising.pool
pool_rises b k (Take (Taken i)) owned rising m = rising.pool
pool_rises b k (Take Empty) owned rising m = rising.pool
pool_rises b k (Take Closed) owned rising m = rising.pool
pool_rises b k (SweepOut is) owned rising m = rising.pool
pool_rises b k Close owned rising m = rising.pool
pool_rises b k Post owned rising m = rising.pool
pool_rises b k (Unpost stood) owned rising m = rising.pool
pool_rises b k (Start (Ok done)) owned rising m = rising.pool
pool_rises b k (Start (Err r)) owned rising m = rising.pool
pool_rises b k (Stop kill (Ok done)) owned rising m = rising.pool
pool_rises b k (Stop kill (Err r)) owned rising m = rising.pool
pool_rises b k (Split n) owned rising m = rising.pool
pool_rises b k (Join n) owned rising m = rising.pool

pub next_rises : (b : Board) (e : Entry) → IsCounted b → AreRising b → CanBeNext b e → AreRising (next b e)
next_rises b e owned rising stands = record {
  pool = pool_rises b e.by e.event owned rising stands.meets;
  hands = λ n. go n (cases_eq n e.by);
}
  where
    go : (n : ℕ) → (n ≡ e.by) ⊎ (n ≢ e.by) → IsRising (hand (next b e) n)
    go n (inl mine) = subst (λ k. IsRising (hand (next b e) k)) (sym mine) (hand_rises b e.by e.event owned rising stands.actor stands.meets)
    go n (inr apart) = subst (λ is. IsRising is) (sym (hand_stays b e.by n e.event stands.meets apart)) (rising.hands n)

pub runs_rise : (b : Board) (h : List Entry) → IsCounted b → AreRising b → RunsFrom b h → AreRising (after_from b h)
runs_rise b [] owned rising runs = rising
runs_rise b (e ∷ h) owned rising runs =
    runs_rise (next b e) h (keeps_next b e owned runs.0) (next_rises b e owned rising runs.0) runs.1

empty_rising : AreRising empty_board
empty_rising = record { pool = tt; hands = λ k. one_hand k }
  where
    one_hand : (k : ℕ) → IsRising (hand empty_board k)
    one_hand zero = tt
    one_hand (suc zero) = tt
    one_hand (suc (suc k)) = tt

pub run_rises : (h : List Entry) → Run h → AreRising (After h)
run_rises h run = runs_rise empty_board h empty_owned empty_rising run

-- the first of a rising list is its lowest
pub first_lowest : (i j : ℕ) (xs : List ℕ) → IsRising (i ∷ xs) → 1 ≤ times j (i ∷ xs) → i ≤ j
first_lowest i j xs rising some = go (cases_lt 0 (times j xs))
  where
    go : (0 < times j xs) ⊎ (times j xs ≤ 0) → i ≤ j
    go (inl later) = omega (arith, below_all i j xs rising.0 rising.1 (omega (arith, later)))
    go (inr none) = let e : j ≡ i = same_is j i (omega (arith, some, none)) in omega (arith, e)

pub run_claims : (h : List Entry) (k i j : ℕ) → Run h → Meets (After h) k (Claim (Some i)) → 1 ≤ times j (After h).pool → i ≤ j
run_claims h k i j run m some =
    first_lowest i j m.0
    (subst (λ is. IsRising is) m.1 (run_rises h run).pool)
    (subst (λ is. 1 ≤ times j is) m.1 some)
