-- Where a Vacant place has another word later, its generation has risen: so an enrol ends.
use Rattle.std.proofs.Common.{◌≡◌, ◌≢◌, ◌⊎◌, ℕ, ◌+◌, ◌<◌, true, false, List, [], ◌∷◌, ◌++◌, length, set, get_or, Some, None, Ok, Err, refl, sym, ap, subst, ◌∙◌, inl, inr, arith}
use Rattle.std.proofs.lemmas.List.{get_or-set_same, get_or-set_other}
use Rattle.std.proofs.lemmas.Bool.{cases_eq}
use Rattle.gentl_types.specs.declared.word.Word.{Word}
use Rattle.gentl_types.specs.declared.word.State.TheVariants.{Vacant, Held, Away}
use Rattle.board_machine.specs.declared.events.Entry.{Entry}
use Rattle.board_machine.specs.declared.events.Event.{Event}
use Rattle.board_machine.specs.declared.events.Event.TheVariants.{Look, LookPool, LookOut, LookRun, Enrol, Grab, Lay, Vacate, Pool, Claim, SweepPool, Fill, Take, SweepOut, Close, Post, Unpost, Start, Stop, Split, Join}
use Rattle.board_machine.specs.declared.events.TakeEnd.TheVariants.{Taken, Empty, Closed}
use Rattle.board_machine.specs.Machine.{Board, empty_board, vacant, word_at, InHand, Meets, after_event, next}
use Rattle.board_machine.specs.Histories.{Run, RunsFrom, After, after_from}
use Rattle.board_machine.specs.Owners.{IsCounted}
use Rattle.board_machine.proofs.Counts.{stands_away, hand_tally}
use Rattle.board_machine.proofs.Keeps.{keeps_next}
use Rattle.board_machine.proofs.Runs.{after-append, runs_rest, runs_front, run_owned}
use Rattle.board_machine.proofs.Generations.{runs_renews}

-- the word is the same, or has a later generation
abbrev pub StaysOrRises : Word → Word → Type 0
StaysOrRises old new = (new ≡ old) ⊎ (old.generation < new.generation)

other_place : (b : Board) (i j : ℕ) (w : Word) → i ≢ j → StaysOrRises (word_at b i) (get_or (set b.words j w) i vacant)
other_place b i j w apart = inl (get_or-set_other b.words j i w vacant apart)

not_in_hand : (b : Board) (k i j : ℕ) → IsCounted b → (word_at b i).state ≡ Vacant → InHand b k j → i ≢ j
not_in_hand b k i j owned empty mine same =
    let away : (word_at b j).state ≡ Away = stands_away b j owned (hand_tally b k j mine) in
    let again : (word_at b i).state ≡ Away = ap (λ m. (word_at b m).state) same ∙ away in absurd (cc)

not_held : (b : Board) (i j : ℕ) → (word_at b i).state ≡ Vacant → (word_at b j).state ≡ Held → i ≢ j
not_held b i j empty is_held same = let again : (word_at b i).state ≡ Held = ap (λ m. (word_at b m).state) same ∙ is_held in absurd (cc)

vacant_enrol : (b : Board) (i j size g : ℕ) → length b.words ≡ 15 → j < 15 → g ≡ (word_at b j).generation + 1 → (i ≡ j) ⊎ (i ≢ j)
    → StaysOrRises (word_at b i) (get_or (set b.words j (record { state = Away; size = size; generation = g })) i vacant)
vacant_enrol b i j size g wide below is (inl e) =
    let here : get_or (set b.words j (record { state = Away; size = size; generation = g })) i vacant ≡ record { state = Away; size = size; generation = g } =
    ap (λ m. get_or (set b.words j (record { state = Away; size = size; generation = g })) m vacant) e
    ∙ get_or-set_same b.words j (record { state = Away; size = size; generation = g }) vacant (omega (arith, wide)) in
    inr (omega (arith, is, ap (λ w. w.generation) here, ap (λ m. (word_at b m).generation) e))
vacant_enrol b i j size g wide below is (inr apart) = other_place b i j _ apart

vacant_event : (b : Board) (k i : ℕ) (event : Event) → IsCounted b → Meets b k event → (word_at b i).state ≡ Vacant → StaysOrRises (word_at b i) (word_at (after_event b k event) i)
vacant_event b k i (Look j w) owned m empty = inl refl
vacant_event b k i (LookPool is) owned m empty = inl refl
vacant_event b k i (LookOut is closed) owned m empty = inl refl
vacant_event b k i (LookRun r) owned m empty = inl refl
vacant_event b k i (Enrol j size (Ok g)) owned m empty = vacant_enrol b i j size g owned.wide m.0 m.4 (cases_eq i j)
vacant_event b k i (Enrol j size (Err w)) owned m empty = inl refl
vacant_event b k i (Grab j g (Ok done)) owned m empty = other_place b i j _ (not_held b i j empty m.1.0)
vacant_event b k i (Grab j g (Err w)) owned m empty = inl refl
vacant_event b k i (Lay j) owned m empty = other_place b i j _ (not_in_hand b k i j owned empty m)
vacant_event b k i (Vacate j) owned m empty = other_place b i j _ (not_in_hand b k i j owned empty m)
vacant_event b k i (Pool j) owned m empty = inl refl
vacant_event b k i (Claim (Some j)) owned m empty = inl refl
vacant_event b k i (Claim None) owned m empty = inl refl
vacant_event b k i (SweepPool is) owned m empty = inl refl
vacant_event b k i (Fill j f true) owned m empty = inl refl
vacant_event b k i (Fill j f false) owned m empty = inl refl
vacant_event b k i (Take (Taken j)) owned m empty = inl refl
vacant_event b k i (Take Empty) owned m empty = inl refl
vacant_event b k i (Take Closed) owned m empty = inl refl
vacant_event b k i (SweepOut is) owned m empty = inl refl
vacant_event b k i Close owned m empty = inl refl
vacant_event b k i Post owned m empty = inl refl
vacant_event b k i (Unpost stood) owned m empty = inl refl
vacant_event b k i (Start (Ok done)) owned m empty = inl refl
vacant_event b k i (Start (Err r)) owned m empty = inl refl
vacant_event b k i (Stop kill (Ok done)) owned m empty = inl refl
vacant_event b k i (Stop kill (Err r)) owned m empty = inl refl
vacant_event b k i (Split n) owned m empty = inl refl
vacant_event b k i (Join n) owned m empty = inl refl

vacant_from : (b : Board) (i : ℕ) (h : List Entry) → IsCounted b → RunsFrom b h → (word_at b i).state ≡ Vacant → StaysOrRises (word_at b i) (word_at (after_from b h) i)
vacant_from b i [] owned runs empty = inl refl
vacant_from b i (e ∷ h) owned runs empty =
    go (vacant_event b e.by i e.event owned runs.0.meets empty) (vacant_from (next b e) i h (keeps_next b e owned runs.0) runs.1)
  where
    go : StaysOrRises (word_at b i) (word_at (next b e) i)
        → ((word_at (next b e) i).state ≡ Vacant → StaysOrRises (word_at (next b e) i) (word_at (after_from (next b e) h) i))
        → StaysOrRises (word_at b i) (word_at (after_from (next b e) h) i)
    go (inl same) later = subst (λ w. StaysOrRises w (word_at (after_from (next b e) h) i)) same (later (ap (λ w. w.state) same ∙ empty))
    go (inr more) later = inr (omega (arith, more, (runs_renews (next b e) i h runs.1).rises))

pub vacant_run : (front rest : List Entry) (i : ℕ) → Run (front ++ rest) → (word_at (After front) i).state ≡ Vacant → StaysOrRises (word_at (After front) i) (word_at (After (front ++ rest)) i)
vacant_run front rest i run empty =
    subst (λ b. StaysOrRises (word_at (After front) i) (word_at b i)) (sym (after-append empty_board front rest))
    (vacant_from (After front) i rest (run_owned front (runs_front empty_board front rest run)) (runs_rest empty_board front rest run) empty)
