-- At each place that isn't vacant the history tells of a buffer.
use Rattle.std.proofs.Common.{◌≡◌, ◌≢◌, ◌⊎◌, ℕ, ◌<◌, true, false, List, [], ◌∷◌, length, set, get_or, Option, Some, None, Ok, Err, refl, sym, ap, subst, ◌∙◌, inl, inr, arith}
use Rattle.std.proofs.lemmas.List.{get_or-set_same}
use Rattle.std.proofs.lemmas.Bool.{cases_eq}
use Rattle.gev_types.specs.Filling.{Filling}
use Rattle.gev_types.specs.Limits.{place_count}
use Rattle.gentl_types.specs.declared.word.Word.{Word}
use Rattle.gentl_types.specs.declared.word.State.TheVariants.{Vacant, Held, Away}
use Rattle.board_machine.specs.declared.events.Entry.{Entry}
use Rattle.board_machine.specs.declared.events.Event.{Event}
use Rattle.board_machine.specs.declared.events.Event.TheVariants.{Enrol, Grab, Lay, Vacate, Claim, Fill, Take, Start, Stop}
use Rattle.board_machine.specs.declared.events.TakeEnd.TheVariants.{Taken, Empty, Closed}
use Rattle.board_machine.specs.Machine.{Board, vacant, word_at, InHand, Meets, after_event, next, empty_board}
use Rattle.board_machine.specs.Histories.{RunsFrom, Run, After, after_from}
use Rattle.board_machine.specs.Owners.{IsCounted}
use Rattle.board_machine.proofs.Counts.{stands_away, stands_below, hand_tally}
use Rattle.board_machine.proofs.Keeps.{keeps_next, empty_owned, empty_words}
use Rattle.board_machine.proofs.Others.{other_word, apart_by_hand}
use Rattle.board_machine.proofs.Runs.{run_owned}
use Rattle.board_model.specs.Plain.{PlainState, HasBuf, lying, nothing}
use Rattle.script_trace.specs.Trace.{acquirer}
use Rattle.script_trace.specs.Contents.{content_after, contents_from, contents_of}
use Rattle.script_replay.specs.Boards.{LiesAsTold, IsReady}
use Rattle.script_replay.proofs.Places.{set_apart, one_keeps_length}

-- At each place of the board that isn't vacant something lies.
abbrev pub TellsAll : Board → List (Option Filling) → Type 0
TellsAll b c = (i : ℕ) → (word_at b i).state ≢ Vacant → lying c i ≢ nothing

held_used : (w : Word) → w.state ≡ Held → w.state ≢ Vacant
held_used w e f = let both : Held ≡ Vacant = sym e ∙ f in absurd cc

away_used : (w : Word) → w.state ≡ Away → w.state ≢ Vacant
away_used w e f = let both : Away ≡ Vacant = sym e ∙ f in absurd cc

something : (f : Filling) → Some f ≢ nothing
something f e = cc

-- a word that was in use before
in_use : (b : Board) (c : List (Option Filling)) (i j : ℕ) (w : Word) → (word_at b j).state ≢ Vacant → TellsAll b c → (get_or (set b.words j w) i vacant).state ≢ Vacant → lying c i ≢ nothing
in_use b c i j w used told still = go (cases_eq i j)
  where
    go : (i ≡ j) ⊎ (i ≢ j) → lying c i ≢ nothing
    go (inl e) = told i (subst (λ n. (word_at b n).state ≢ Vacant) (sym e) used)
    go (inr apart) = told i (subst (λ (v : Word). v.state ≢ Vacant) (other_word b i j w apart) still)

put_there : (c : List (Option Filling)) (i j : ℕ) (f : Filling) → j < length c → (i ≢ j → lying c i ≢ nothing) → lying (set c j (Some f)) i ≢ nothing
put_there c i j f below others = go (cases_eq i j)
  where
    go : (i ≡ j) ⊎ (i ≢ j) → lying (set c j (Some f)) i ≢ nothing
    go (inl e) lies_not = something f (sym (get_or-set_same c j (Some f) nothing below) ∙ ap (λ n. lying (set c j (Some f)) n) (sym e) ∙ lies_not)
    go (inr apart) lies_not = others apart (sym (set_apart c j i (Some f) apart) ∙ lies_not)

hand_below : (b : Board) (k i : ℕ) → IsCounted b → InHand b k i → i < place_count
hand_below b k i owned mine = stands_below b i owned (hand_tally b k i mine)

hand_used : (b : Board) (k i : ℕ) → IsCounted b → InHand b k i → (word_at b i).state ≢ Vacant
hand_used b k i owned mine = away_used (word_at b i) (stands_away b i owned (hand_tally b k i mine))

tells_next : (b : Board) (c : List (Option Filling)) (k : ℕ) (e : Event) → IsCounted b → length c ≡ place_count → Meets b k e → TellsAll b c → TellsAll (after_event b k e) (content_after c e)
tells_next b c k (Enrol j size (Ok g)) owned wide m told i used =
    put_there c i j _ (omega (arith, wide, m.0)) (λ apart. told i (subst (λ (v : Word). v.state ≢ Vacant) (other_word b i j _ apart) used))
tells_next b c k (Grab j g (Ok done)) owned wide m told i used = in_use b c i j _ (held_used (word_at b j) m.1.0) told used
tells_next b c k (Lay j) owned wide m told i used = in_use b c i j _ (hand_used b k j owned m) told used
tells_next b c k (Vacate j) owned wide m told i used = go (cases_eq i j)
  where
    below : j < length b.words
    below = let low : j < place_count = hand_below b k j owned m in omega (arith, low, owned.wide)

    go : (i ≡ j) ⊎ (i ≢ j) → lying (set c j nothing) i ≢ nothing
    go (inl e) lies_not = absurd (used (ap (λ n. (word_at (after_event b k (Vacate j)) n).state) e ∙ ap (λ (w : Word). w.state) (get_or-set_same b.words j (record (word_at b j) { state = Vacant }) vacant below)))
    go (inr apart) lies_not = told i (subst (λ (v : Word). v.state ≢ Vacant) (other_word b i j _ apart) used) (sym (set_apart c j i nothing apart) ∙ lies_not)
tells_next b c k (Fill j f true) owned wide m told i used =
    let low : j < place_count = hand_below b k j owned m.0 in
    put_there c i j f (omega (arith, low, wide)) (λ apart. told i used)
tells_next b c k (Fill j f false) owned wide m told i used =
    let low : j < place_count = hand_below b k j owned m.0 in
    put_there c i j f (omega (arith, low, wide)) (λ apart. told i used)
tells_next b c k (Enrol j size (Err w)) owned wide m told i used = told i used
tells_next b c k (Grab j g (Err w)) owned wide m told i used = told i used
tells_next b c k (Claim (Some j)) owned wide m told i used = told i used
tells_next b c k (Claim None) owned wide m told i used = told i used
tells_next b c k (Take (Taken j)) owned wide m told i used = told i used
tells_next b c k (Take Empty) owned wide m told i used = told i used
tells_next b c k (Take Closed) owned wide m told i used = told i used
tells_next b c k (Start (Ok done)) owned wide m told i used = told i used
tells_next b c k (Start (Err r)) owned wide m told i used = told i used
tells_next b c k (Stop kill (Ok done)) owned wide m told i used = told i used
tells_next b c k (Stop kill (Err r)) owned wide m told i used = told i used
tells_next b c k e owned wide m told i used = told i used

tells_from : (b : Board) (c : List (Option Filling)) (h : List Entry) → IsCounted b → length c ≡ place_count → RunsFrom b h → TellsAll b c → TellsAll (after_from b h) (contents_from c h)
tells_from b c [] owned wide runs told = told
tells_from b c (e ∷ h) owned wide runs told =
    tells_from (next b e) (content_after c e.event) h (keeps_next b e owned runs.0) (one_keeps_length c e.event ∙ wide) runs.1
    (tells_next b c e.by e.event owned wide runs.0.meets told)

none_told : TellsAll empty_board (contents_of [])
none_told i used = absurd (used (ap (λ (w : Word). w.state) (empty_words place_count i)))

pub run_tells : (h : List Entry) → Run h → TellsAll (After h) (contents_of h)
run_tells h run = tells_from empty_board (contents_of []) h empty_owned refl run none_told

-- A buffer in the hands of another than the acquisition lies at its place.
pub in_hand_lies : (s : PlainState) (k i : ℕ) → acquirer ≢ k → IsReady s → InHand s.board k i → HasBuf s i
in_hand_lies s k i apart ready mine none_there = go (ready.left.lies i)
  where
    owned : IsCounted s.board
    owned = subst IsCounted (sym ready.left.board.state) (run_owned ready.history ready.left.board.run)

    told : lying (contents_of ready.history) i ≢ nothing
    told =
        run_tells ready.history ready.left.board.run i
        (subst (λ (b : Board). (word_at b i).state ≢ Vacant) ready.left.board.state (hand_used s.board k i owned mine))

    go : LiesAsTold s.board s.contents (contents_of ready.history) i → ⊥
    go (inl e) = told (sym e ∙ none_there)
    go (inr lifted) = apart_by_hand s.board k acquirer i i owned apart lifted.1 mine refl
