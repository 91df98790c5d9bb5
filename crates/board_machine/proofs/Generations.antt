-- A place's generation never falls, and has one size.
use Rattle.std.proofs.Common.{◌≡◌, ◌≢◌, ℕ, ◌+◌, ◌≤◌, ◌<◌, true, false, List, [], ◌∷◌, ◌++◌, length, get_or, set, Some, None, Ok, Err, refl, sym, ap, subst, ◌∙◌, inl, inr, ◌⊎◌, arith}
use Rattle.std.proofs.lemmas.Bool.{cases_lt, cases_eq}
use Rattle.std.proofs.lemmas.List.{set_past, get_or-set_other, get_or-set_same}
use Rattle.gentl_types.specs.declared.word.Word.{Word}
use Rattle.gentl_types.specs.declared.word.State.{State}
use Rattle.gentl_types.specs.declared.word.State.TheVariants.{Vacant, Held, Away}
use Rattle.board_machine.specs.declared.events.Entry.{Entry}
use Rattle.board_machine.specs.declared.events.Event.{Event}
use Rattle.board_machine.specs.declared.events.Event.TheVariants.{Look, LookPool, LookOut, LookRun, Enrol, Grab, Lay, Vacate, Pool, Claim, SweepPool, Fill, Take, SweepOut, Close, Post, Unpost, Start, Stop, Split, Join}
use Rattle.board_machine.specs.declared.events.TakeEnd.TheVariants.{Taken, Empty, Closed}
use Rattle.board_machine.specs.Machine.{Board, empty_board, vacant, word_at, Meets, after_event, next, with_state, IsHeldAs}
use Rattle.board_machine.specs.Histories.{after_from, RunsFrom, After, Run}
use Rattle.board_machine.specs.Laws.{Renews}
use Rattle.board_machine.proofs.Runs.{after-append, runs_rest}

pub renews_same : (w : Word) → Renews w w
renews_same w = record { rises = omega arith; one_size = λ _. refl }

pub renews_then : (u v w : Word) → Renews u v → Renews v w → Renews u w
renews_then u v w first second = record {
  rises = omega (arith, first.rises, second.rises);
  one_size = λ e.
      let middle : v.generation ≡ u.generation = omega (arith, first.rises, second.rises, e) in
      second.one_size (e ∙ sym middle) ∙ first.one_size middle;
}

renews_state : (w : Word) (s : State) → Renews w (with_state w s)
renews_state w s = record { rises = omega arith; one_size = λ _. refl }

-- a place's word after a word was written, which renews the one that stood there
renews_set : (ws : List Word) (j : ℕ) (w : Word) (i : ℕ) → Renews (get_or ws j vacant) w → Renews (get_or ws i vacant) (get_or (set ws j w) i vacant)
renews_set ws j w i here = go (cases_eq i j) (cases_lt j (length ws))
  where
    go : (i ≡ j) ⊎ (i ≢ j) → (j < length ws) ⊎ (length ws ≤ j) → Renews (get_or ws i vacant) (get_or (set ws j w) i vacant)
    go (inl e) (inl within) =
        let P : ℕ → Type 0 = λ n. Renews (get_or ws n vacant) (get_or (set ws j w) n vacant) in
        subst P (sym e) (subst (λ v. Renews (get_or ws j vacant) v) (sym (get_or-set_same ws j w vacant within)) here)
    go (inl e) (inr past) = subst (λ vs. Renews (get_or ws i vacant) (get_or vs i vacant)) (sym (set_past ws j w past)) (renews_same (get_or ws i vacant))
    go (inr apart) _ = subst (λ v. Renews (get_or ws i vacant) v) (sym (get_or-set_other ws j i w vacant apart)) (renews_same (get_or ws i vacant))

renews_enrol : (b : Board) (j size g i : ℕ) → g ≡ (word_at b j).generation + 1 → Renews (word_at b i) (get_or (set b.words j (record { state = Away; size = size; generation = g })) i vacant)
renews_enrol b j size g i later = renews_set b.words j (record { state = Away; size = size; generation = g }) i (record {
  rises = omega arith;
  one_size = λ e. absurd (omega (arith, later, e));
})

pub renews : (b : Board) (k i : ℕ) (event : Event) → Meets b k event → Renews (word_at b i) (word_at (after_event b k event) i)
renews b k i (Look j w) m = renews_same (word_at b i)
renews b k i (LookPool is) m = renews_same (word_at b i)
renews b k i (LookOut is closed) m = renews_same (word_at b i)
renews b k i (LookRun r) m = renews_same (word_at b i)
renews b k i (Enrol j size (Ok g)) m = renews_enrol b j size g i m.4
renews b k i (Enrol j size (Err w)) m = renews_same (word_at b i)
renews b k i (Grab j g (Ok done)) m = renews_set b.words j _ i (renews_state (word_at b j) Away)
renews b k i (Grab j g (Err w)) m = renews_same (word_at b i)
renews b k i (Lay j) m = renews_set b.words j _ i (renews_state (word_at b j) Held)
renews b k i (Vacate j) m = renews_set b.words j _ i (renews_state (word_at b j) Vacant)
renews b k i (Pool j) m = renews_same (word_at b i)
renews b k i (Claim (Some j)) m = renews_same (word_at b i)
renews b k i (Claim None) m = renews_same (word_at b i)
renews b k i (SweepPool is) m = renews_same (word_at b i)
renews b k i (Fill j f true) m = renews_same (word_at b i)
renews b k i (Fill j f false) m = renews_same (word_at b i)
renews b k i (Take (Taken j)) m = renews_same (word_at b i)
renews b k i (Take Empty) m = renews_same (word_at b i)
renews b k i (Take Closed) m = renews_same (word_at b i)
renews b k i (SweepOut is) m = renews_same (word_at b i)
renews b k i Close m = renews_same (word_at b i)
renews b k i Post m = renews_same (word_at b i)
renews b k i (Unpost stood) m = renews_same (word_at b i)
renews b k i (Start (Ok done)) m = renews_same (word_at b i)
renews b k i (Start (Err r)) m = renews_same (word_at b i)
renews b k i (Stop kill (Ok done)) m = renews_same (word_at b i)
renews b k i (Stop kill (Err r)) m = renews_same (word_at b i)
renews b k i (Split n) m = renews_same (word_at b i)
renews b k i (Join n) m = renews_same (word_at b i)

pub runs_renews : (b : Board) (i : ℕ) (h : List Entry) → RunsFrom b h → Renews (word_at b i) (word_at (after_from b h) i)
runs_renews b i [] runs = renews_same (word_at b i)
runs_renews b i (e ∷ h) runs =
    renews_then (word_at b i) (word_at (next b e) i) (word_at (after_from (next b e) h) i)
    (renews b e.by i e.event runs.0.meets)
    (runs_renews (next b e) i h runs.1)

pub run_renews : (front rest : List Entry) (i : ℕ) → Run (front ++ rest) → Renews (word_at (After front) i) (word_at (After (front ++ rest)) i)
run_renews front rest i run =
    subst (λ b. Renews (word_at (After front) i) (word_at b i)) (sym (after-append empty_board front rest))
    (runs_renews (After front) i rest (runs_rest empty_board front rest run))

same_words : (v w : Word) → v.state ≡ w.state → v.size ≡ w.size → v.generation ≡ w.generation → v ≡ w
same_words v w state size generation =
    ap (λ s. record v { state = s }) state
    ∙ (ap (λ n. record v { state = w.state; size = n }) size ∙ ap (λ n. record v { state = w.state; size = w.size; generation = n }) generation)

-- Held words of one generation are the same word, so one try of a grab decides.
pub renewed_held : (w v : Word) (g : ℕ) → Renews w v → IsHeldAs w g → IsHeldAs v g → v ≡ w
renewed_held w v g renewed before after =
    let same_generation : v.generation ≡ w.generation = after.1 ∙ sym before.1 in
    same_words v w (after.0 ∙ sym before.0) (renewed.one_size same_generation) same_generation

-- Another vacant word has a later generation, which bounds the tries of an enrol.
pub renewed_vacant : (w v : Word) → Renews w v → w.state ≡ Vacant → v.state ≡ Vacant → v ≢ w → w.generation < v.generation
renewed_vacant w v renewed before after other = go (cases_eq v.generation w.generation)
  where
    go : (v.generation ≡ w.generation) ⊎ (v.generation ≢ w.generation) → w.generation < v.generation
    go (inl e) = absurd (other (same_words v w (after ∙ sym before) (renewed.one_size e) e))
    go (inr apart) = omega (arith, renewed.rises, apart)
