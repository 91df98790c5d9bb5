-- Lists of events that an actor can make on a board, each with the machine's answer, and that end no actor.
use Rattle.std.proofs.Common.{◌≡◌, ◌≢◌, ℕ, ◌+◌, ◌<◌, ◌≤◌, List, [], ◌∷◌, ◌++◌, length, get_or, set, Option, Some, refl, sym, ap, subst, ◌∙◌, arith, get_or-set_same}
use Rattle.std.specs.Prelude.{⊤}
use Rattle.board_machine.specs.declared.events.Event.{Event}
use Rattle.board_machine.specs.declared.events.Event.TheVariants.{Lay, Pool, SweepPool, SweepOut, Join}
use Rattle.board_machine.specs.Places.{same, times, put_all, without, put_in}
use Rattle.board_machine.specs.Machine.{Board, hand, held, places, no_actor, IsActor, InHand, Meets, CanBeNext, entry, after_event}
use Rattle.board_machine.specs.Histories.{RunsFrom, after_from}
use Rattle.board_machine.specs.Adding.{entries_of, KeepsActors}
use Rattle.board_machine.proofs.Places.{times-append, times-put, times-put_all, times-without, same_self}
use Rattle.board_machine.proofs.Boards.{actor_within}
use Rattle.board_machine.proofs.Actors.{still_actor, others_stay}
use Rattle.board_machine.proofs.Runs.{after-append, runs-append}
use Rattle.board_calls.specs.Rounds.{lays, pools}
use Rattle.gev_types.specs.Filling.{Filling}
use Rattle.board_machine.specs.declared.events.Entry.{Entry}
use Rattle.script_trace.specs.Contents.{FillsAsLay, FillsFrom}
use Rattle.script_trace.proofs.Trees.{entries-append}

-- it joins no actor into another
abbrev pub JoinsNone : Event → Type 0
JoinsNone (Join n) = ⊥
JoinsNone _ = ⊤

joins_no : (e : Event) (n : ℕ) → JoinsNone e → e ≢ Join n
joins_no e n none is = subst JoinsNone is none

-- Actor k can make these events, with fills as the contents say; no actor ends.
pub record Goes (c : List (Option Filling)) (b : Board) (k : ℕ) (es : List Event) : Type 0 where
  pub runs : RunsFrom b (entries_of k es)
  pub fills : FillsFrom c (entries_of k es)
  pub actors : KeepsActors b (after_from b (entries_of k es))

-- It can make a list of events of this kind.
pub record Can (c : List (Option Filling)) (b : Board) (k : ℕ) (Kind : List Event → Type 0) : Type 0 where
  pub events : List Event
  pub kind : Kind events
  pub goes : Goes c b k events

pub goes_none : (c : List (Option Filling)) (b : Board) (k : ℕ) → Goes c b k []
goes_none c b k = record { runs = tt; fills = tt; actors = λ n actor. actor }

pub goes_first : (c : List (Option Filling)) (b : Board) (k : ℕ) (e : Event) (es : List Event) → IsActor b k → Meets b k e → JoinsNone e
    → FillsAsLay c k e → (IsActor (after_event b k e) k → Goes c (after_event b k e) k es) → Goes c b k (e ∷ es)
goes_first c b k e es actor meets none fill rest =
    let may : CanBeNext b (entry k e) = record { actor = actor; meets = meets } in
    let more : Goes c (after_event b k e) k es = rest (still_actor b k e actor meets) in
    record {
      runs = (may, more.runs);
      fills = (fill, more.fills);
      actors = λ n is. more.actors n (others_stay b (entry k e) n may is (joins_no e n none));
    }

pub goes_last : (c : List (Option Filling)) (b : Board) (k : ℕ) (e : Event) → IsActor b k → Meets b k e → JoinsNone e → FillsAsLay c k e
    → Goes c b k (e ∷ [])
goes_last c b k e actor meets none fill = goes_first c b k e [] actor meets none fill (λ _. goes_none c (after_event b k e) k)

-- the board after these events of an actor
abbrev pub after_events : Board → ℕ → List Event → Board
after_events b k es = after_from b (entries_of k es)

pub after_both : (b : Board) (k : ℕ) (es fs : List Event) → after_events b k (es ++ fs) ≡ after_events (after_events b k es) k fs
after_both b k es fs = ap (λ l. after_from b l) (entries-append k es fs) ∙ after-append b (entries_of k es) (entries_of k fs)

pub fills-append : (c : List (Option Filling)) (g h : List Entry) → FillsFrom c g → FillsFrom c h → FillsFrom c (g ++ h)
fills-append c [] h first rest = rest
fills-append c (e ∷ g) h first rest = (first.0, fills-append c g h first.1 rest)

pub goes_both : (c : List (Option Filling)) (b : Board) (k : ℕ) (es fs : List Event) → Goes c b k es → Goes c (after_events b k es) k fs
    → Goes c b k (es ++ fs)
goes_both c b k es fs first rest = record {
  runs = subst (λ l. RunsFrom b l) (sym (entries-append k es fs)) (runs-append b (entries_of k es) (entries_of k fs) first.runs rest.runs);
  fills = subst (λ l. FillsFrom c l) (sym (entries-append k es fs)) (fills-append c (entries_of k es) (entries_of k fs) first.fills rest.fills);
  actors = λ n is. subst (λ c. IsActor c n) (sym (after_both b k es fs)) (rest.actors n (first.actors n is));
}

-- ---- hands

pub own_hand : (hs : List (Option (List ℕ))) (k : ℕ) (is : List ℕ) → k < length hs → held (get_or (set hs k (Some is)) k no_actor) ≡ is
own_hand hs k is within = ap held (get_or-set_same hs k (Some is) no_actor within)

-- what stands in the hands that a place came into, and in those that it left
pub picked : (b : Board) (k i j : ℕ) → IsActor b k → times j (held (get_or (set b.hands k (Some (put_in i (hand b k)))) k no_actor)) ≡ same j i + times j (hand b k)
picked b k i j actor = ap (times j) (own_hand b.hands k (put_in i (hand b k)) (actor_within b k actor)) ∙ times-put j i (hand b k)

pub dropped : (b : Board) (k i j : ℕ) → IsActor b k → InHand b k i → same j i + times j (held (get_or (set b.hands k (Some (without i (hand b k)))) k no_actor)) ≡ times j (hand b k)
dropped b k i j actor mine =
    ap (λ l. same j i + times j l) (own_hand b.hands k (without i (hand b k)) (actor_within b k actor)) ∙ times-without j i (hand b k) mine

pub swept : (b : Board) (k j : ℕ) (is : List ℕ) → IsActor b k → times j (held (get_or (set b.hands k (Some (put_all is (hand b k)))) k no_actor)) ≡ times j is + times j (hand b k)
swept b k j is actor = ap (times j) (own_hand b.hands k (put_all is (hand b k)) (actor_within b k actor)) ∙ times-put_all j is (hand b k)

pub just_picked : (b : Board) (k i : ℕ) → IsActor b k → 1 ≤ times i (held (get_or (set b.hands k (Some (put_in i (hand b k)))) k no_actor))
just_picked b k i actor = omega (arith, picked b k i i actor, same_self i)

-- These places are in the hands of actor k.
abbrev pub Has : Board → ℕ → List ℕ → Type 0
Has b k is = (j : ℕ) → times j is ≤ times j (hand b k)

pub has_first : (b : Board) (k i : ℕ) (is : List ℕ) → Has b k (i ∷ is) → InHand b k i
has_first b k i is has = omega (arith, has i, same_self i)

-- where one place was dropped
pub has_rest : (b : Board) (k i : ℕ) (is : List ℕ) (h : List ℕ) → ((j : ℕ) → same j i + times j h ≡ times j (hand b k)) → Has b k (i ∷ is) → (j : ℕ) → times j is ≤ times j h
has_rest b k i is h left has j = omega (arith, left j, has j)

-- ---- places that are laid or pooled

pub lays_go : (c : List (Option Filling)) (is : List ℕ) (b : Board) (k : ℕ) → IsActor b k → Has b k is → Goes c b k (lays is)
lays_go c [] b k actor has = goes_none c b k
lays_go c (i ∷ is) b k actor has =
    let mine : InHand b k i = has_first b k i is has in
    goes_first c b k (Lay i) (lays is) actor mine tt tt
    (λ stays. lays_go c is (after_event b k (Lay i)) k stays (has_rest b k i is _ (λ j. dropped b k i j actor mine) has))

pub pools_go : (c : List (Option Filling)) (is : List ℕ) (b : Board) (k : ℕ) → IsActor b k → Has b k is → Goes c b k (pools is)
pools_go c [] b k actor has = goes_none c b k
pools_go c (i ∷ is) b k actor has =
    let mine : InHand b k i = has_first b k i is has in
    goes_first c b k (Pool i) (pools is) actor mine tt tt
    (λ stays. pools_go c is (after_event b k (Pool i)) k stays (has_rest b k i is _ (λ j. dropped b k i j actor mine) has))

lays-append : (is js : List ℕ) → lays (is ++ js) ≡ lays is ++ lays js
lays-append [] js = refl
lays-append (i ∷ is) js = ap (λ es. Lay i ∷ es) (lays-append is js)

pub lays_both_go : (c : List (Option Filling)) (is js : List ℕ) (b : Board) (k : ℕ) → IsActor b k
    → ((j : ℕ) → times j is + times j js ≤ times j (hand b k)) → Goes c b k (lays is ++ lays js)
lays_both_go c is js b k actor has =
    subst (Goes c b k) (lays-append is js) (lays_go c (is ++ js) b k actor (λ j. omega (arith, times-append j is js, has j)))

-- ---- sweeps

pub has_swept_pool : (b : Board) (k : ℕ) → IsActor b k → Has (after_event b k (SweepPool b.pool)) k b.pool
has_swept_pool b k actor j = omega (arith, swept b k j b.pool actor)

pub has_swept_out : (b : Board) (k : ℕ) → IsActor b k → Has (after_event b k (SweepOut (places b.out))) k (places b.out)
has_swept_out b k actor j = omega (arith, swept b k j (places b.out) actor)
