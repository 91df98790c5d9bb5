-- One fill before others, with its events as they are.
use Rattle.std.proofs.Common.{◌≡◌, ◌≢◌, ◌⊎◌, ℕ, ◌<◌, ◌≤◌, Bool, true, false, if◌then◌else◌, List, [], ◌∷◌, ◌++◌, length, set, get_or, Option, Some, refl, sym, ap, subst, ◌∙◌, inl, inr, arith, append_assoc}
use Rattle.std.proofs.lemmas.List.{get_or-set_same, set_past}
use Rattle.std.proofs.lemmas.Bool.{cases_eq, cases_lt}
use Rattle.gev_types.specs.Filling.{Filling}
use Rattle.gev_types.specs.Limits.{place_count}
use Rattle.gentl_types.specs.declared.word.Word.{Word}
use Rattle.gentl_types.specs.declared.word.State.TheVariants.{Held}
use Rattle.board_machine.specs.declared.events.Entry.{Entry}
use Rattle.board_machine.specs.declared.events.Event.{Event}
use Rattle.board_machine.specs.Machine.{Board, InHand, word_at, with_state, vacant}
use Rattle.board_machine.specs.Adding.{entries_of, Adds, KeepsActors}
use Rattle.board_machine.specs.Owners.{IsCounted}
use Rattle.board_machine.proofs.Places.{same_other}
use Rattle.board_machine.proofs.Adding.{adds_both, entries_of-append}
use Rattle.board_machine.proofs.Runs.{stands_lists, run_owned}
use Rattle.board_machine.proofs.Counts.{stands_below, hand_tally}
use Rattle.board_machine.proofs.Others.{other_word}
use Rattle.board_calls.specs.Rounds.{filled_or_laid}
use Rattle.board_model.specs.Plain.{PlainState, lying, nothing}
use Rattle.board_model.proofs.CallsHands.{filled, laid}
use Rattle.acquisition_machine.specs.declared.retired.Retired.{Retired}
use Rattle.acquisition_machine.specs.TurnLaws.{given_of}
use Rattle.board_model.specs.Steps.{KeepsHeld}
use Rattle.board_calls.specs.declared.mode.Mode.{Mode}
use Rattle.board_calls.specs.Modes.{DropsFor}
use Rattle.script_trace.specs.Trace.{acquirer}
use Rattle.script_trace.specs.Modes.{FillsInMode}
use Rattle.script_trace.specs.Contents.{contents_of, contents_from}
use Rattle.script_trace.proofs.Quiet.{fills_block}
use Rattle.script_replay.specs.declared.fill_counts.FillCounts.{FillCounts}
use Rattle.script_replay.specs.Boards.{LiesAsTold, IsLeftBy}
use Rattle.script_replay.specs.Acquiring.{IsAway, FillsOne, with_board, CountsOne, FillsAll}
use Rattle.script_replay.specs.Counting.{with_fill, with_dropped, counted_in}
use Rattle.script_replay.proofs.Counted.{counted-more}
use Rattle.script_replay.proofs.Retiring.{one_actors}
use Rattle.script_replay.proofs.Dropping.{drops_keep, drops_actors, drops_count, away_held, left_held}
use Rattle.script_replay.proofs.Lines.{contents-append}
use Rattle.script_replay.proofs.Places.{set_apart, told_wide}

-- ---- one buffer

-- what else is in the acquisition's hands stays there
one_hands : (x : Retired) (s new : PlainState) (one : FillsOne x s new) (j : ℕ) → j ≢ x.place → InHand s.board acquirer j → InHand new.board acquirer j
one_hands x s new one j apart has = go one.filled one.adds
  where
    go : (full : Bool) → Adds s.board acquirer (filled_or_laid x.place x.buf full) new.board → InHand new.board acquirer j
    go true adds =
        let kept = filled s.board new.board acquirer x.place j x.buf (record { may = adds.runs.0; after = adds.after }) in
        omega (arith, same_other j x.place apart, kept, has)
    go false adds =
        let kept = laid s.board new.board acquirer x.place j (record { may = adds.runs.1.0; after = adds.after }) in
        omega (arith, same_other j x.place apart, kept, has)

-- and its words do
one_words : (x : Retired) (s new : PlainState) (one : FillsOne x s new) (j : ℕ) → j ≢ x.place → word_at new.board j ≡ word_at s.board j
one_words x s new one j apart = go one.filled one.adds
  where
    go : (full : Bool) → Adds s.board acquirer (filled_or_laid x.place x.buf full) new.board → word_at new.board j ≡ word_at s.board j
    go true adds = ap (λ (b : Board). word_at b j) adds.after
    go false adds = ap (λ (b : Board). word_at b j) adds.after ∙ other_word s.board j x.place _ apart

-- the size of a place stays
one_sizes : (x : Retired) (s new : PlainState) (one : FillsOne x s new) (j : ℕ) → (word_at new.board j).size ≡ (word_at s.board j).size
one_sizes x s new one j = go (cases_eq j x.place)
  where
    w : Word
    w = with_state (word_at s.board x.place) Held

    here : (full : Bool) → Adds s.board acquirer (filled_or_laid x.place x.buf full) new.board → (x.place < length s.board.words) ⊎ (length s.board.words ≤ x.place) → (word_at new.board x.place).size ≡ (word_at s.board x.place).size
    here true adds within = ap (λ (b : Board). (word_at b x.place).size) adds.after
    here false adds (inl within) = ap (λ (b : Board). (word_at b x.place).size) adds.after ∙ ap (λ (v : Word). v.size) (get_or-set_same s.board.words x.place w vacant within)
    here false adds (inr past) = ap (λ (b : Board). (word_at b x.place).size) adds.after ∙ ap (λ (ws : List Word). (get_or ws x.place vacant).size) (set_past s.board.words x.place w past)

    go : (j ≡ x.place) ⊎ (j ≢ x.place) → (word_at new.board j).size ≡ (word_at s.board j).size
    go (inl e) = subst (λ n. (word_at new.board n).size ≡ (word_at s.board n).size) (sym e) (here one.filled one.adds (cases_lt x.place (length s.board.words)))
    go (inr apart) = ap (λ (v : Word). v.size) (one_words x s new one j apart)

one_told : (told : List (Option Filling)) (x : Retired) (full : Bool) → contents_from told (entries_of acquirer (filled_or_laid x.place x.buf full)) ≡ set told x.place (Some x.buf)
one_told told x true = refl
one_told told x false = refl

one_left : (x : Retired) (s new : PlainState) (h : List Entry) (one : FillsOne x s new) → IsAway s (given_of x) → IsLeftBy s h → IsLeftBy new (h ++ entries_of acquirer (filled_or_laid x.place x.buf one.filled))
one_left x s new h one away left = record {
  board = stands_lists s.board new.board h acquirer (filled_or_laid x.place x.buf one.filled) left.board one.adds;
  lies = λ i. subst (λ (told : List (Option Filling)). LiesAsTold new.board new.contents told i)
      (sym (contents-append _ h (entries_of acquirer (filled_or_laid x.place x.buf one.filled)) ∙ one_told (contents_of h) x one.filled))
      (subst (λ (c : List (Option Filling)). LiesAsTold new.board c (set (contents_of h) x.place (Some x.buf)) i) (sym one.contents) (lies i (cases_eq i x.place) (left.lies i)));
}
  where
    owned : IsCounted s.board
    owned = subst IsCounted (sym left.board.state) (run_owned h left.board.run)

    below : x.place < length (contents_of h)
    below = let low : x.place < place_count = stands_below s.board x.place owned (hand_tally s.board acquirer x.place away.in_hand) in omega (arith, low, told_wide h)

    lies : (i : ℕ) → (i ≡ x.place) ⊎ (i ≢ x.place) → LiesAsTold s.board s.contents (contents_of h) i → LiesAsTold new.board (set s.contents x.place (Some x.buf)) (set (contents_of h) x.place (Some x.buf)) i
    lies i (inl e) told = inl (subst (λ n. lying (set s.contents x.place (Some x.buf)) n ≡ lying (set (contents_of h) x.place (Some x.buf)) n) (sym e)
        (get_or-set_same s.contents x.place (Some x.buf) nothing away.within ∙ sym (get_or-set_same (contents_of h) x.place (Some x.buf) nothing below)))
    lies i (inr apart) (inl e) = inl (set_apart s.contents x.place i (Some x.buf) apart ∙ e ∙ sym (set_apart (contents_of h) x.place i (Some x.buf) apart))
    lies i (inr apart) (inr lifted) = inr (set_apart s.contents x.place i (Some x.buf) apart ∙ lifted.0, one_hands x s new one i apart lifted.1)

-- what one fill counts
one_counted : (a : FillCounts) (i : ℕ) (f : Filling) (full : Bool) → counted_in a (entries_of acquirer (filled_or_laid i f full)) ≡ (if full then with_fill a f.rec.complete else a)
one_counted a i f true = refl
one_counted a i f false = refl

-- with what was dropped before it
both_counted : (mode : Mode) (a : FillCounts) (dropped : List ℕ) (front : List Event) (i : ℕ) (f : Filling) (full : Bool) → DropsFor mode dropped front
    → counted_in a (entries_of acquirer (front ++ filled_or_laid i f full)) ≡ (if full then with_fill (with_dropped a (length dropped)) f.rec.complete else with_dropped a (length dropped))
both_counted mode a dropped front i f full drops =
    ap (counted_in a) (entries_of-append acquirer front (filled_or_laid i f full))
    ∙ (counted-more a (entries_of acquirer front) (entries_of acquirer (filled_or_laid i f full))
    ∙ (ap (λ (c : FillCounts). counted_in c (entries_of acquirer (filled_or_laid i f full))) (drops_count mode a dropped front drops)
    ∙ one_counted (with_dropped a (length dropped)) i f full))

-- one of the acquisition's buffers once others were dropped
bare_away : (mode : Mode) (x : Retired) (s new : PlainState) (a b : FillCounts) (counts : CountsOne mode x s a new b) → IsAway s (given_of x) → IsAway (with_board s counts.mid) (given_of x)
bare_away mode x s new a b counts away =
    (away_held s counts.mid (given_of x ∷ []) (drops_keep mode s.board counts.mid counts.dropped counts.front counts.drops counts.adds) (away, tt, tt)).0

-- the events of one fill by the mode
abbrev pub fill_events : (mode : Mode) (x : Retired) (s new : PlainState) (a b : FillCounts) → CountsOne mode x s a new b → List Event
fill_events mode x s new a b counts = counts.front ++ filled_or_laid x.place x.buf counts.one.filled

-- What holds of one fill and of others behind it, with these events.
pub record FillsWith (mode : Mode) (xs : List Retired) (s : PlainState) (a : FillCounts) (new : PlainState) (b : FillCounts) (events : List Event) : Type 0 where
  pub filled : FillsInMode mode xs events
  pub adds : Adds s.board acquirer events new.board
  pub actors : KeepsActors s.board new.board
  pub sizes : (i : ℕ) → (word_at new.board i).size ≡ (word_at s.board i).size
  pub left : (h : List Entry) → IsLeftBy s h → IsLeftBy new (h ++ entries_of acquirer events)
  pub counted : b ≡ counted_in a (entries_of acquirer events)

pub fills_before : (mode : Mode) (x : Retired) (xs : List Retired) (s mid new : PlainState) (a b c : FillCounts) → IsAway s (given_of x) → (counts : CountsOne mode x s a mid b) → (rest : FillsAll mode xs mid b new c)
    → FillsWith mode (x ∷ xs) s a new c (fill_events mode x s mid a b counts ++ rest.events)
fills_before mode x xs s mid new a b c away counts rest = record {
  filled = (first, rest.events, refl, fills_block mode x counts.dropped counts.front one.filled counts.drops, rest.filled);
  adds = adds_both s.board mid.board new.board acquirer first rest.events both rest.adds;
  actors = λ n actor. rest.actors n (one_actors x bare mid one n (drops_actors mode s.board counts.mid counts.dropped counts.front counts.drops counts.adds n actor));
  sizes = λ i. rest.sizes i ∙ (one_sizes x bare mid one i ∙ ap (λ (ws : List Word). (get_or ws i vacant).size) held.words);
  left = λ h left. subst (λ (g : List Entry). IsLeftBy new g)
      (append_assoc h (entries_of acquirer first) (entries_of acquirer rest.events) ∙ ap (λ g. h ++ g) (sym (entries_of-append acquirer first rest.events)))
      (rest.left (h ++ entries_of acquirer first) (first_left h left));
  counted =
      rest.counted
      ∙ (ap (λ (k : FillCounts). counted_in k (entries_of acquirer rest.events))
      (counts.counted ∙ sym (both_counted mode a counts.dropped counts.front x.place x.buf one.filled counts.drops))
      ∙ (sym (counted-more a (entries_of acquirer first) (entries_of acquirer rest.events)) ∙ ap (counted_in a) (sym (entries_of-append acquirer first rest.events))));
}
  where
    bare : PlainState
    bare = with_board s counts.mid

    one : FillsOne x bare mid
    one = counts.one

    fill : List Event
    fill = filled_or_laid x.place x.buf one.filled

    first : List Event
    first = counts.front ++ fill

    held : KeepsHeld s.board acquirer counts.mid
    held = drops_keep mode s.board counts.mid counts.dropped counts.front counts.drops counts.adds

    both : Adds s.board acquirer first mid.board
    both = adds_both s.board counts.mid mid.board acquirer counts.front fill counts.adds one.adds

    first_left : (h : List Entry) → IsLeftBy s h → IsLeftBy mid (h ++ entries_of acquirer first)
    first_left h left =
        subst (λ (g : List Entry). IsLeftBy mid g)
        (append_assoc h (entries_of acquirer counts.front) (entries_of acquirer fill) ∙ ap (λ g. h ++ g) (sym (entries_of-append acquirer counts.front fill)))
        (one_left x bare mid (h ++ entries_of acquirer counts.front) one (bare_away mode x s mid a b counts away)
        (left_held mode s counts.mid h counts.dropped counts.front counts.drops counts.adds left))
