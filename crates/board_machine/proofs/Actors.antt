-- Which actors there are after an act, and whose the entries of a run are.
use Rattle.std.proofs.Common.{◌≡◌, ◌≢◌, ℕ, ◌+◌, ◌≤◌, ◌<◌, ◌==◌, true, false, List, [], ◌∷◌, ◌++◌, length, get_or, set, Option, Some, None, Ok, Err, refl, sym, ap, subst, ◌∙◌, inl, inr, ◌⊎◌, arith, eq-eqb, ne_eqb, get_or-set_same}
use Rattle.std.proofs.lemmas.Bool.{cond_both, cond-true, cond-false, cases_lt, cases_eq}
use Rattle.std.proofs.lemmas.List.{get_or_past, length_push}
use Rattle.board_machine.specs.declared.events.Entry.{Entry}
use Rattle.board_machine.specs.declared.events.Event.{Event}
use Rattle.board_machine.specs.declared.events.Event.TheVariants.{Look, LookPool, LookOut, LookRun, Enrol, Grab, Lay, Vacate, Pool, Claim, SweepPool, Fill, Take, SweepOut, Close, Post, Unpost, Start, Stop, Split, Join}
use Rattle.board_machine.specs.declared.events.TakeEnd.TheVariants.{Taken, Empty, Closed}
use Rattle.board_machine.specs.Places.{same, times}
use Rattle.board_machine.specs.Machine.{Board, empty_board, hand_at, no_actor, empty_hands, IsActor, Meets, CanBeNext, after_event, next}
use Rattle.board_machine.specs.Histories.{after_from, RunsFrom, After, Run, own_of}
use Rattle.board_machine.specs.Actors.{born_by, born, BearOnly, AllBy, ActorsIn, IsNeverJoined}
use Rattle.board_machine.specs.Laws.{IsAlone, KeepsHands, OnlyTheseAct}
use Rattle.board_machine.proofs.Places.{same_self, times-append}
use Rattle.board_machine.proofs.Boards.{actor_within, empty_is_actor}
use Rattle.board_machine.proofs.Others.{other_hand, hand_before, actor_stays, others_run}
use Rattle.board_machine.proofs.Runs.{after-append, runs_front, runs_rest, run_owned}
use Rattle.board_machine.proofs.Ended.{splits_from}

some_hand_there : (hs : List (Option (List ℕ))) (k : ℕ) (is : List ℕ) → k < length hs → get_or (set hs k (Some is)) k no_actor ≢ no_actor
some_hand_there hs k is within e = let there : Some is ≡ no_actor = sym (get_or-set_same hs k (Some is) no_actor within) ∙ e in cc

-- an actor is still one after its own act
pub still_actor : (b : Board) (k : ℕ) (event : Event) → IsActor b k → Meets b k event → IsActor (after_event b k event) k
still_actor b k (Look i w) actor meets = actor
still_actor b k (LookPool is) actor meets = actor
still_actor b k (LookOut is closed) actor meets = actor
still_actor b k (LookRun r) actor meets = actor
still_actor b k (Enrol i size (Ok g)) actor meets = some_hand_there b.hands k _ (actor_within b k actor)
still_actor b k (Enrol i size (Err w)) actor meets = actor
still_actor b k (Grab i g (Ok done)) actor meets = some_hand_there b.hands k _ (actor_within b k actor)
still_actor b k (Grab i g (Err w)) actor meets = actor
still_actor b k (Lay i) actor meets = some_hand_there b.hands k _ (actor_within b k actor)
still_actor b k (Vacate i) actor meets = some_hand_there b.hands k _ (actor_within b k actor)
still_actor b k (Pool i) actor meets = some_hand_there b.hands k _ (actor_within b k actor)
still_actor b k (Claim (Some i)) actor meets = some_hand_there b.hands k _ (actor_within b k actor)
still_actor b k (Claim None) actor meets = actor
still_actor b k (SweepPool is) actor meets = some_hand_there b.hands k _ (actor_within b k actor)
still_actor b k (Fill i f true) actor meets = some_hand_there b.hands k _ (actor_within b k actor)
still_actor b k (Fill i f false) actor meets = actor
still_actor b k (Take (Taken i)) actor meets = some_hand_there b.hands k _ (actor_within b k actor)
still_actor b k (Take Empty) actor meets = actor
still_actor b k (Take Closed) actor meets = actor
still_actor b k (SweepOut is) actor meets = some_hand_there b.hands k _ (actor_within b k actor)
still_actor b k Close actor meets = actor
still_actor b k Post actor meets = actor
still_actor b k (Unpost stood) actor meets = actor
still_actor b k (Start (Ok done)) actor meets = actor
still_actor b k (Start (Err r)) actor meets = actor
still_actor b k (Stop kill (Ok done)) actor meets = actor
still_actor b k (Stop kill (Err r)) actor meets = actor
still_actor b k (Split m) actor meets = λ e. actor (sym (hand_before b.hands k empty_hands (actor_within b k actor)) ∙ e)
still_actor b k (Join j) actor meets = λ e. actor (sym (other_hand b.hands j k no_actor (λ at. meets.1 (sym at))) ∙ e)

pub actors_stay : (b : Board) (e : Entry) → CanBeNext b e → IsActor (next b e) e.by
actors_stay b e may = still_actor b e.by e.event may.actor may.meets

-- and so is every other one, but for one that it joins
pub others_stay : (b : Board) (e : Entry) (n : ℕ) → CanBeNext b e → IsActor b n → e.event ≢ Join n → IsActor (next b e) n
others_stay b e n may actor other = go (cases_eq n e.by)
  where
    go : (n ≡ e.by) ⊎ (n ≢ e.by) → IsActor (next b e) n
    go (inl mine) = subst (λ k. IsActor (next b e) k) (sym mine) (actors_stay b e may)
    go (inr apart) = λ none. actor (sym (actor_stays b e.by n e.event actor apart other) ∙ none)

set_before : (hs : List (Option (List ℕ))) (k n : ℕ) (h : Option (List ℕ)) → get_or hs k no_actor ≢ no_actor → get_or (set hs k h) n no_actor ≢ no_actor → get_or hs n no_actor ≢ no_actor
set_before hs k n h was is_one = go (cases_eq n k)
  where
    go : (n ≡ k) ⊎ (n ≢ k) → get_or hs n no_actor ≢ no_actor
    go (inl e) none = was (ap (λ i. get_or hs i no_actor) (sym e) ∙ none)
    go (inr apart) none = is_one (other_hand hs k n h apart ∙ none)

split_before : (hs : List (Option (List ℕ))) (m n : ℕ) → m ≡ length hs → get_or (hs ++ empty_hands ∷ []) n no_actor ≢ no_actor → (get_or hs n no_actor ≢ no_actor) ⊎ (Split m ≡ Split n)
split_before hs m n new is_one = go (cases_lt n (length hs)) (cases_eq m n)
  where
    go : (n < length hs) ⊎ (length hs ≤ n) → (m ≡ n) ⊎ (m ≢ n) → (get_or hs n no_actor ≢ no_actor) ⊎ (Split m ≡ Split n)
    go (inl within) _ = inl (λ none. is_one (hand_before hs n empty_hands within ∙ none))
    go (inr past) (inl e) = inr (ap Split e)
    go (inr past) (inr apart) =
        absurd (is_one (get_or_past (hs ++ empty_hands ∷ []) n no_actor (omega (arith, length_push hs empty_hands, past, apart, new))))

-- who is an actor after an act was one before, or is the one that a split added
pub actor_before : (b : Board) (k n : ℕ) (event : Event) → IsActor b k → Meets b k event → IsActor (after_event b k event) n → IsActor b n ⊎ (event ≡ Split n)
actor_before b k n (Look i w) actor meets is_one = inl is_one
actor_before b k n (LookPool is) actor meets is_one = inl is_one
actor_before b k n (LookOut is closed) actor meets is_one = inl is_one
actor_before b k n (LookRun r) actor meets is_one = inl is_one
actor_before b k n (Enrol i size (Ok g)) actor meets is_one = inl (set_before b.hands k n _ actor is_one)
actor_before b k n (Enrol i size (Err w)) actor meets is_one = inl is_one
actor_before b k n (Grab i g (Ok done)) actor meets is_one = inl (set_before b.hands k n _ actor is_one)
actor_before b k n (Grab i g (Err w)) actor meets is_one = inl is_one
actor_before b k n (Lay i) actor meets is_one = inl (set_before b.hands k n _ actor is_one)
actor_before b k n (Vacate i) actor meets is_one = inl (set_before b.hands k n _ actor is_one)
actor_before b k n (Pool i) actor meets is_one = inl (set_before b.hands k n _ actor is_one)
actor_before b k n (Claim (Some i)) actor meets is_one = inl (set_before b.hands k n _ actor is_one)
actor_before b k n (Claim None) actor meets is_one = inl is_one
actor_before b k n (SweepPool is) actor meets is_one = inl (set_before b.hands k n _ actor is_one)
actor_before b k n (Fill i f true) actor meets is_one = inl (set_before b.hands k n _ actor is_one)
actor_before b k n (Fill i f false) actor meets is_one = inl is_one
actor_before b k n (Take (Taken i)) actor meets is_one = inl (set_before b.hands k n _ actor is_one)
actor_before b k n (Take Empty) actor meets is_one = inl is_one
actor_before b k n (Take Closed) actor meets is_one = inl is_one
actor_before b k n (SweepOut is) actor meets is_one = inl (set_before b.hands k n _ actor is_one)
actor_before b k n Close actor meets is_one = inl is_one
actor_before b k n Post actor meets is_one = inl is_one
actor_before b k n (Unpost stood) actor meets is_one = inl is_one
actor_before b k n (Start (Ok done)) actor meets is_one = inl is_one
actor_before b k n (Start (Err r)) actor meets is_one = inl is_one
actor_before b k n (Stop kill (Ok done)) actor meets is_one = inl is_one
actor_before b k n (Stop kill (Err r)) actor meets is_one = inl is_one
actor_before b k n (Split m) actor meets is_one = split_before b.hands m n meets is_one
actor_before b k n (Join j) actor meets is_one = inl (set_before b.hands j n no_actor (empty_is_actor b j meets.0) is_one)

pub actors_born : (b : Board) (e : Entry) (n : ℕ) → CanBeNext b e → IsActor (next b e) n → IsActor b n ⊎ (e.event ≡ Split n)
actors_born b e n may is_one = actor_before b e.by n e.event may.actor may.meets is_one

-- an entry that isn't an actor's own
pub not_own : (n : ℕ) (e : Entry) (h : List Entry) → n ≢ e.by → own_of n (e ∷ h) ≡ own_of n h
not_own n e h apart = cond-false (e.by == n) (e ∷ own_of n h) (own_of n h) (ne_eqb e.by n (λ at. apart (sym at)))

unborn_from : (b : Board) (n : ℕ) (h : List Entry) → RunsFrom b h → length (after_from b h).hands ≤ n → own_of n h ≡ []
unborn_from b n [] runs past = refl
unborn_from b n (e ∷ h) runs past =
    not_own n e h (λ at. omega (arith, at, actor_within b e.by runs.0.actor, splits_from b (e ∷ h), past))
    ∙ unborn_from (next b e) n h runs.1 past

pub unborn_nothing : (h : List Entry) (n : ℕ) → Run h → length (After h).hands ≤ n → own_of n h ≡ []
unborn_nothing h n run past = unborn_from empty_board n h run past

pub alone_on : (b : Board) (e : Entry) → CanBeNext b e → IsAlone b e.by → ((n : ℕ) → e.event ≢ Split n) → IsAlone (next b e) e.by
alone_on b e may alone nobody = record { actor = actors_stay b e may; only = λ n is_one. go n (actors_born b e n may is_one) }
  where
    go : (n : ℕ) → IsActor b n ⊎ (e.event ≡ Split n) → n ≡ e.by
    go n (inl was) = alone.only n was
    go n (inr splits_off) = absurd (nobody n splits_off)

-- where the first entry isn't an actor's own, and none later
first_apart : (n : ℕ) (e : Entry) (h : List Entry) → own_of n (e ∷ h) ≡ [] → n ≢ e.by
first_apart n e h none at =
    let first : own_of n (e ∷ h) ≡ e ∷ own_of n h = cond-true (e.by == n) (e ∷ own_of n h) (own_of n h) (eq-eqb e.by n (sym at)) in
    absurd (cc)

pub hand_from : (b : Board) (n : ℕ) (h : List Entry) → RunsFrom b h → IsActor b n → own_of n h ≡ [] → IsNeverJoined n h → hand_at (after_from b h) n ≡ hand_at b n
hand_from b n [] runs actor none joined = refl
hand_from b n (e ∷ h) runs actor none joined =
    hand_from (next b e) n h runs.1 (λ gone. actor (sym here ∙ gone)) (sym (not_own n e h apart) ∙ none) joined.1 ∙ here
  where
    apart : n ≢ e.by
    apart = first_apart n e h none

    here : hand_at (next b e) n ≡ hand_at b n
    here = actor_stays b e.by n e.event actor apart joined.0

pub others_leave : (front between : List Entry) (n : ℕ) → Run (front ++ between) → IsActor (After front) n → own_of n between ≡ [] → IsNeverJoined n between → KeepsHands (After front) (After (front ++ between)) n
others_leave front between n run actor none joined =
    subst (λ b. KeepsHands (After front) b n) (sym (after-append empty_board front between)) (record {
      hands = hand_from (After front) n between (runs_rest empty_board front between run) actor none joined;
      words = (others_run (After front) n between (run_owned front (runs_front empty_board front between run)) (runs_rest empty_board front between run) none).1;
    })

born_more : (k n : ℕ) (e : Entry) (h : List Entry) → times n (born (own_of k h)) ≤ times n (born (own_of k (e ∷ h)))
born_more k n e h =
    cond_both (e.by == k) (e ∷ own_of k h) (own_of k h) (λ es. times n (born (own_of k h)) ≤ times n (born es))
    (λ yes. omega (arith, times-append n (born_by e.event) (born (own_of k h))))
    (λ no. omega arith)

born_here : (n : ℕ) (e : Entry) (h : List Entry) → e.event ≡ Split n → 1 ≤ times n (born (own_of e.by (e ∷ h)))
born_here n e h is =
    let first : own_of e.by (e ∷ h) ≡ e ∷ own_of e.by h = cond-true (e.by == e.by) (e ∷ own_of e.by h) (own_of e.by h) (eq-eqb e.by e.by refl) in
    let P : List Entry → Type 0 = λ es. 1 ≤ times n (born es) in
    let one : times n (born_by e.event) ≡ same n n + 0 = ap (λ event. times n (born_by event)) is in
    subst P (sym first) (omega (arith, one, same_self n, times-append n (born_by e.event) (born (own_of e.by h))))

all_from : (b : Board) (ks : List ℕ) (h : List Entry) → RunsFrom b h → ActorsIn ks b → BearOnly ks h → AllBy ks h × ActorsIn ks (after_from b h)
all_from b ks [] runs are only = (tt, are)
all_from b ks (e ∷ h) runs are only =
    let rest = all_from (next b e) ks h runs.1 (λ n is_one. next_are n (actors_born b e n runs.0 is_one)) (λ k n mine bears. only k n mine (omega (arith, bears, born_more k n e h))) in
    ((are e.by runs.0.actor, rest.0), rest.1)
  where
    next_are : (n : ℕ) → IsActor b n ⊎ (e.event ≡ Split n) → 1 ≤ times n ks
    next_are n (inl was) = are n was
    next_are n (inr splits_off) = only e.by n (are e.by runs.0.actor) (born_here n e h splits_off)

first_in : (ks : List ℕ) → 1 ≤ times 0 ks → ActorsIn ks empty_board
first_in ks mine n is_one = go (cases_eq n 0)
  where
    go : (n ≡ 0) ⊎ (n ≢ 0) → 1 ≤ times n ks
    go (inl e) = subst (λ m. 1 ≤ times m ks) (sym e) mine
    go (inr apart) = absurd (is_one (get_or_past empty_board.hands n no_actor (omega (arith, apart))))

pub all_by : (ks : List ℕ) (h : List Entry) → Run h → 1 ≤ times 0 ks → BearOnly ks h → OnlyTheseAct ks h
all_by ks h run mine only = let both = all_from empty_board ks h run (first_in ks mine) only in record { entries = both.0; actors = both.1 }
