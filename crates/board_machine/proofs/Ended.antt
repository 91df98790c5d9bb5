-- An actor that was joined into another does nothing more, and where one is alone nobody else does.
use Rattle.std.proofs.Common.{◌≡◌, ◌≢◌, ℕ, ◌+◌, ◌<◌, ◌==◌, true, false, List, [], ◌∷◌, ◌++◌, length, set, Option, Some, None, Ok, Err, refl, sym, ap, subst, ◌∙◌, arith, ne_eqb, eq-eqb}
use Rattle.std.proofs.lemmas.Bool.{cond-true, cond-false}
use Rattle.std.proofs.lemmas.List.{length-set, length_push, get_or-set_same, get_or_past, get_or_push}
use Rattle.board_machine.specs.declared.events.Entry.{Entry}
use Rattle.board_machine.specs.declared.events.Event.{Event}
use Rattle.board_machine.specs.declared.events.Event.TheVariants.{Look, LookPool, LookOut, LookRun, Enrol, Grab, Lay, Vacate, Pool, Claim, SweepPool, Fill, Take, SweepOut, Close, Post, Unpost, Start, Stop, Split, Join}
use Rattle.board_machine.specs.declared.events.TakeEnd.TheVariants.{Taken, Empty, Closed}
use Rattle.board_machine.specs.Machine.{Board, empty_board, hand_at, no_actor, empty_hands, IsActor, Meets, CanBeNext, after_event, next}
use Rattle.board_machine.specs.Histories.{after_from, RunsFrom, After, Run, own_of, split_by, splits}
use Rattle.board_machine.specs.Laws.{IsEnded, IsAlone, AddsActor}
use Rattle.board_machine.proofs.Others.{number_stays}
use Rattle.board_machine.proofs.Boards.{actor_within, empty_is_actor}
use Rattle.board_machine.proofs.Runs.{runs_rest}

kept : (b : Board) (k : ℕ) (h : Option (List ℕ)) → length (set b.hands k h) ≡ length b.hands + 0
kept b k h = omega (arith, length-set b.hands k h)

-- a number for each split, and no other
pub hands_count : (b : Board) (k : ℕ) (event : Event) → length (after_event b k event).hands ≡ length b.hands + split_by event
hands_count b k (Look i w) = omega arith
hands_count b k (LookPool is) = omega arith
hands_count b k (LookOut is closed) = omega arith
hands_count b k (LookRun r) = omega arith
hands_count b k (Enrol i size (Ok g)) = kept b k _
hands_count b k (Enrol i size (Err w)) = omega arith
hands_count b k (Grab i g (Ok done)) = kept b k _
hands_count b k (Grab i g (Err w)) = omega arith
hands_count b k (Lay i) = kept b k _
hands_count b k (Vacate i) = kept b k _
hands_count b k (Pool i) = kept b k _
hands_count b k (Claim (Some i)) = kept b k _
hands_count b k (Claim None) = omega arith
hands_count b k (SweepPool is) = kept b k _
hands_count b k (Fill i f true) = kept b k _
hands_count b k (Fill i f false) = omega arith
hands_count b k (Take (Taken i)) = kept b k _
hands_count b k (Take Empty) = omega arith
hands_count b k (Take Closed) = omega arith
hands_count b k (SweepOut is) = kept b k _
hands_count b k Close = omega arith
hands_count b k Post = omega arith
hands_count b k (Unpost stood) = omega arith
hands_count b k (Start (Ok done)) = omega arith
hands_count b k (Start (Err r)) = omega arith
hands_count b k (Stop kill (Ok done)) = omega arith
hands_count b k (Stop kill (Err r)) = omega arith
hands_count b k (Split n) = length_push b.hands empty_hands
hands_count b k (Join n) = kept b n _

pub splits_from : (b : Board) (h : List Entry) → length (after_from b h).hands ≡ length b.hands + splits h
splits_from b [] = omega arith
splits_from b (e ∷ h) = omega (arith, splits_from (next b e) h, hands_count b e.by e.event)

pub run_splits : (h : List Entry) → Run h → length (After h).hands ≡ splits h + 1
run_splits h run = omega (arith, splits_from empty_board h)

-- an ended actor isn't joined again
not_joined : (b : Board) (k n : ℕ) (event : Event) → hand_at b n ≡ no_actor → Meets b k event → event ≢ Join n
not_joined b k n event none m joins = let again = subst (λ ev. Meets b k ev) joins m in absurd (cc (none, again.0))

ended_apart : (b : Board) (n : ℕ) (e : Entry) → hand_at b n ≡ no_actor → IsActor b e.by → n ≢ e.by
ended_apart b n e none actor same_number = actor (ap (λ k. hand_at b k) (sym same_number) ∙ none)

pub ended_next : (b : Board) (n : ℕ) (e : Entry) → IsEnded b n → CanBeNext b e → IsEnded (next b e) n
ended_next b n e ended stands = record {
  given = omega (arith, hands_count b e.by e.event, ended.given);
  ended =
      number_stays b e.by n e.event ended.given (ended_apart b n e ended.ended stands.actor)
      (not_joined b e.by n e.event ended.ended stands.meets)
      ∙ ended.ended;
}

pub ended_stays : (b : Board) (n : ℕ) (h : List Entry) → IsEnded b n → RunsFrom b h → IsEnded (after_from b h) n
ended_stays b n [] ended runs = ended
ended_stays b n (e ∷ h) ended runs = ended_stays (next b e) n h (ended_next b n e ended runs.0) runs.1

-- no entry of an ended actor follows
pub ended_nothing : (b : Board) (n : ℕ) (h : List Entry) → IsEnded b n → RunsFrom b h → own_of n h ≡ []
ended_nothing b n [] ended runs = refl
ended_nothing b n (e ∷ h) ended runs =
    cond-false (e.by == n) (e ∷ own_of n h) (own_of n h)
    (ne_eqb e.by n (λ same_number. ended_apart b n e ended.ended runs.0.actor (sym same_number)))
    ∙ ended_nothing (next b e) n h (ended_next b n e ended runs.0) runs.1

-- where an actor is alone the next entry is its own
pub alone_next : (b : Board) (k : ℕ) (e : Entry) → IsAlone b k → CanBeNext b e → e.by ≡ k
alone_next b k e alone stands = alone.only e.by stands.actor

-- entries of others alone can't follow where an actor is alone
pub alone_nothing : (b : Board) (k : ℕ) (h : List Entry) → IsAlone b k → RunsFrom b h → own_of k h ≡ [] → h ≡ []
alone_nothing b k [] alone runs none = refl
alone_nothing b k (e ∷ h) alone runs none =
    let mine : (e.by == k) ≡ true = eq-eqb e.by k (alone_next b k e alone runs.0) in
    let first : own_of k (e ∷ h) ≡ e ∷ own_of k h = cond-true (e.by == k) (e ∷ own_of k h) (own_of k h) mine in
    absurd (cc)

-- a join ends the other actor
pub join_ends : (b : Board) (e : Entry) (n : ℕ) → CanBeNext b e → e.event ≡ Join n → IsEnded (next b e) n
join_ends b e n stands joins = subst (λ event. IsEnded (after_event b e.by event) n) (sym joins) (record {
  given = omega (arith, length-set b.hands n no_actor, within);
  ended = get_or-set_same b.hands n no_actor no_actor within;
})
  where
    meets : Meets b e.by (Join n)
    meets = subst (λ event. Meets b e.by event) joins stands.meets

    within : n < length b.hands
    within = actor_within b n (empty_is_actor b n meets.0)

pub ended_run : (front rest : List Entry) (n : ℕ) → Run (front ++ rest) → IsEnded (After front) n → own_of n rest ≡ []
ended_run front rest n run ended = ended_nothing (After front) n rest ended (runs_rest empty_board front rest run)

pub alone_run : (h : List Entry) (e : Entry) (k : ℕ) → Run (h ++ e ∷ []) → IsAlone (After h) k → e.by ≡ k
alone_run h e k run alone = alone_next (After h) k e alone (runs_rest empty_board h (e ∷ []) run).0

-- a split adds an actor with empty hands under a number that was none
pub split_adds : (b : Board) (e : Entry) (n : ℕ) → CanBeNext b e → e.event ≡ Split n → AddsActor b e n
split_adds b e n stands splits_off = record {
  new = get_or_past b.hands n no_actor (omega (arith, meets));
  empty = ap (λ event. hand_at (after_event b e.by event) n) splits_off ∙ get_or_push b.hands empty_hands no_actor n (sym meets);
}
  where
    meets : n ≡ length b.hands
    meets = subst (λ event. Meets b e.by event) splits_off stands.meets
