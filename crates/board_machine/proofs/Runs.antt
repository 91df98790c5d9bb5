-- Histories that grow at their end, and what holds after each of their entries.
use Rattle.std.proofs.Common.{◌≡◌, ℕ, ◌<◌, ◌==◌, cond, List, [], ◌∷◌, ◌++◌, refl, sym, ap, subst, ◌∙◌}
use Rattle.std.proofs.lemmas.Bool.{cond_both}
use Rattle.gev_types.specs.Limits.{place_count}
use Rattle.board_machine.specs.declared.events.Entry.{Entry}
use Rattle.board_machine.specs.declared.events.Event.{Event}
use Rattle.board_machine.specs.Machine.{Board, InHand, CanBeNext, next, empty_board}
use Rattle.board_machine.specs.Histories.{after_from, RunsFrom, After, Run, own_of, StandsFor}
use Rattle.board_machine.specs.Adding.{Adds, entries_of}
use Rattle.board_machine.specs.Owners.{IsCounted}
use Rattle.board_machine.proofs.Keeps.{keeps_next, empty_owned}
use Rattle.board_machine.proofs.Counts.{stands_below, hand_tally}

pub after-append : (b : Board) (g h : List Entry) → after_from b (g ++ h) ≡ after_from (after_from b g) h
after-append b [] h = refl
after-append b (e ∷ g) h = after-append (next b e) g h

pub runs-append : (b : Board) (g h : List Entry) → RunsFrom b g → RunsFrom (after_from b g) h → RunsFrom b (g ++ h)
runs-append b [] h first rest = rest
runs-append b (e ∷ g) h first rest = (first.0, runs-append (next b e) g h first.1 rest)

pub runs_front : (b : Board) (g h : List Entry) → RunsFrom b (g ++ h) → RunsFrom b g
runs_front b [] h runs = tt
runs_front b (e ∷ g) h runs = (runs.0, runs_front (next b e) g h runs.1)

pub runs_rest : (b : Board) (g h : List Entry) → RunsFrom b (g ++ h) → RunsFrom (after_from b g) h
runs_rest b [] h runs = runs
runs_rest b (e ∷ g) h runs = runs_rest (next b e) g h runs.1

pub after-push : (h : List Entry) (e : Entry) → After (h ++ e ∷ []) ≡ next (After h) e
after-push h e = after-append empty_board h (e ∷ [])

pub run-push : (h : List Entry) (e : Entry) → Run h → CanBeNext (After h) e → Run (h ++ e ∷ [])
run-push h e run stands = runs-append empty_board h (e ∷ []) run (stands, tt)

-- a board that stands for a list stands, after one more entry, for the list with it
pub stands_push : (b : Board) (h : List Entry) (e : Entry) → StandsFor b h → CanBeNext b e → StandsFor (next b e) (h ++ e ∷ [])
stands_push b h e stands_for stands = record {
  run = run-push h e stands_for.run (subst (λ c. CanBeNext c e) stands_for.state stands);
  state = ap (λ c. next c e) stands_for.state ∙ sym (after-push h e);
}

-- the same after a list of one actor's events
pub stands_lists : (b new : Board) (h : List Entry) (k : ℕ) (es : List Event) → StandsFor b h → Adds b k es new → StandsFor new (h ++ entries_of k es)
stands_lists b new h k es stands_for adds = record {
  run = runs-append empty_board h (entries_of k es) stands_for.run (subst (λ c. RunsFrom c (entries_of k es)) stands_for.state adds.runs);
  state = adds.after ∙ (ap (λ c. after_from c (entries_of k es)) stands_for.state ∙ sym (after-append empty_board h (entries_of k es)));
}

-- the empty board stands for the empty list
pub stands_empty : StandsFor empty_board []
stands_empty = record { run = tt; state = refl }

pub own_of-append : (k : ℕ) (g h : List Entry) → own_of k (g ++ h) ≡ own_of k g ++ own_of k h
own_of-append k [] h = refl
own_of-append k (e ∷ g) h =
    cond_both (e.by == k) (e ∷ own_of k g) (own_of k g)
    (λ xs. cond (e.by == k) (e ∷ own_of k (g ++ h)) (own_of k (g ++ h)) ≡ xs ++ own_of k h)
    (λ yes. ap (λ t. cond t (e ∷ own_of k (g ++ h)) (own_of k (g ++ h))) yes ∙ ap (λ es. e ∷ es) (own_of-append k g h))
    (λ no. ap (λ t. cond t (e ∷ own_of k (g ++ h)) (own_of k (g ++ h))) no ∙ own_of-append k g h)

pub owned_from : (b : Board) (h : List Entry) → IsCounted b → RunsFrom b h → IsCounted (after_from b h)
owned_from b [] owned runs = owned
owned_from b (e ∷ h) owned runs = owned_from (next b e) h (keeps_next b e owned runs.0) runs.1

pub run_owned : (h : List Entry) → Run h → IsCounted (After h)
run_owned h run = owned_from empty_board h empty_owned run

-- the front of a run is a run
pub run_front : (h front rest : List Entry) → Run h → h ≡ front ++ rest → Run front
run_front h front rest run split = runs_front empty_board front rest (subst (λ g. Run g) split run)

pub run_in_hand : (h : List Entry) (k i : ℕ) → Run h → InHand (After h) k i → i < place_count
run_in_hand h k i run mine = stands_below (After h) i (run_owned h run) (hand_tally (After h) k i mine)
