-- Buffers that the acquisition fills into the output, or lays.
use Rattle.std.proofs.Common.{◌≡◌, ◌≢◌, ◌⊎◌, ℕ, ◌<◌, ◌≤◌, Bool, true, false, if◌then◌else◌, List, [], ◌∷◌, ◌++◌, length, map, take, set, get_or, Option, Some, refl, sym, ap, subst, ◌∙◌, inl, inr, arith, append-nil, append_assoc}
use Rattle.std.proofs.lemmas.List.{get_or-set_same, length-set, set_past}
use Rattle.std.proofs.lemmas.Bool.{cases_eq, cases_lt}
use Rattle.gev_types.specs.Filling.{Filling}
use Rattle.gev_types.specs.Limits.{place_count}
use Rattle.gentl_types.specs.declared.word.Word.{Word}
use Rattle.gentl_types.specs.declared.word.State.TheVariants.{Held}
use Rattle.board_machine.specs.declared.events.Entry.{Entry}
use Rattle.board_machine.specs.declared.events.Event.{Event}
use Rattle.board_machine.specs.declared.events.Event.TheVariants.{Fill, Lay}
use Rattle.board_machine.specs.Places.{same}
use Rattle.board_machine.specs.Machine.{Board, IsActor, InHand, word_at, with_state, vacant, next}
use Rattle.board_machine.specs.Adding.{entries_of, Adds, AddsEntry, AddsOf, KeepsActors}
use Rattle.board_machine.specs.Histories.{RunsFrom, after_from}
use Rattle.board_machine.specs.Owners.{IsCounted}
use Rattle.board_machine.proofs.Places.{same_other}
use Rattle.board_machine.proofs.Adding.{adds_none, adds_one, adds_after, adds_both, entries_of-append, list_keeps, EndNobody}
use Rattle.board_machine.proofs.Runs.{stands_lists, run_owned, after-append, runs_front, runs_rest}
use Rattle.board_machine.proofs.Counts.{stands_below, hand_tally}
use Rattle.board_machine.proofs.Others.{other_word}
use Rattle.board_calls.specs.Rounds.{filled_or_laid}
use Rattle.board_calls.specs.Ends.{is_filled, IfClosed}
use Rattle.board_calls.specs.declared.ends.FillEnd.{FillEnd}
use Rattle.board_calls.specs.declared.ends.FillEnd.TheVariants.{Filled, Closed}
use Rattle.board_model.specs.Plain.{PlainState, lying, nothing, HasBuf}
use Rattle.board_model.specs.Holdings.{contents_after_fill}
use Rattle.board_model.proofs.CallsHands.{filled, laid}
use Rattle.acquisition_machine.specs.declared.retired.Retired.{Retired}
use Rattle.acquisition_machine.specs.Blocks.{Given}
use Rattle.acquisition_machine.specs.TurnLaws.{given_of}
use Rattle.acq_core.specs.declared.window.Window.{Window}
use Rattle.acq_core.specs.Receiver.{buffers, KeepsBlocks}
use Rattle.acq_core.specs.Waiting.{waiting_fills, waiting_requests}
use Rattle.board_model.specs.Steps.{KeepsHeld}
use Rattle.board_model.specs.declared.gone.Gone.{Gone}
use Rattle.board_model.specs.Gone.{gone_of}
use Rattle.board_calls.specs.declared.mode.Mode.{Mode}
use Rattle.board_calls.specs.Modes.{DropsFor, FillsDropping}
use Rattle.script_trace.specs.Trace.{acquirer}
use Rattle.script_trace.proofs.Quiet.{fills_block}
use Rattle.script_trace.specs.Contents.{contents_of, contents_from, FillsFrom, FillsAsLay}
use Rattle.script_replay.specs.declared.fill_counts.FillCounts.{FillCounts}
use Rattle.script_replay.specs.Boards.{LiesAsTold, IsLeftBy, IsReady}
use Rattle.script_replay.specs.Acquiring.{IsAway, AreApart, AreAway, FillsOne, with_board, CountsOne, FillsAll}
use Rattle.script_replay.specs.Telling.{TellsOne}
use Rattle.script_replay.specs.Counting.{with_fill, with_dropped, counted_in}
use Rattle.script_replay.proofs.Counted.{counted-more}
use Rattle.script_replay.proofs.Dropping.{drops_keep, drops_actors, drops_count, away_held, left_held}
use Rattle.script_replay.proofs.Lines.{contents-append}
use Rattle.script_replay.proofs.Places.{set_apart, told_wide}

-- ---- one buffer

-- what else is in the acquisition's hands stays there
one_hands : (x : Retired) (s new : PlainState) (one : FillsOne x s new) (j : ℕ) → j ≢ x.place → InHand s.board acquirer j → InHand new.board acquirer j
one_hands x s new one j apart has = go one.filled one.adds
  where
    go : (full : Bool) → Adds s.board acquirer (filled_or_laid x.place x.buf full) new.board → InHand new.board acquirer j
    go true adds =
        let kept = filled s.board new.board acquirer x.place j x.buf (record { may = adds.runs.0; after = adds.after }) in
        omega (arith, same_other j x.place apart, kept, has)
    go false adds =
        let kept = laid s.board new.board acquirer x.place j (record { may = adds.runs.1.0; after = adds.after }) in
        omega (arith, same_other j x.place apart, kept, has)

-- and its words do
one_words : (x : Retired) (s new : PlainState) (one : FillsOne x s new) (j : ℕ) → j ≢ x.place → word_at new.board j ≡ word_at s.board j
one_words x s new one j apart = go one.filled one.adds
  where
    go : (full : Bool) → Adds s.board acquirer (filled_or_laid x.place x.buf full) new.board → word_at new.board j ≡ word_at s.board j
    go true adds = ap (λ (b : Board). word_at b j) adds.after
    go false adds = ap (λ (b : Board). word_at b j) adds.after ∙ other_word s.board j x.place _ apart

-- the size of a place stays
one_sizes : (x : Retired) (s new : PlainState) (one : FillsOne x s new) (j : ℕ) → (word_at new.board j).size ≡ (word_at s.board j).size
one_sizes x s new one j = go (cases_eq j x.place)
  where
    w : Word
    w = with_state (word_at s.board x.place) Held

    here : (full : Bool) → Adds s.board acquirer (filled_or_laid x.place x.buf full) new.board → (x.place < length s.board.words) ⊎ (length s.board.words ≤ x.place) → (word_at new.board x.place).size ≡ (word_at s.board x.place).size
    here true adds within = ap (λ (b : Board). (word_at b x.place).size) adds.after
    here false adds (inl within) = ap (λ (b : Board). (word_at b x.place).size) adds.after ∙ ap (λ (v : Word). v.size) (get_or-set_same s.board.words x.place w vacant within)
    here false adds (inr past) = ap (λ (b : Board). (word_at b x.place).size) adds.after ∙ ap (λ (ws : List Word). (get_or ws x.place vacant).size) (set_past s.board.words x.place w past)

    go : (j ≡ x.place) ⊎ (j ≢ x.place) → (word_at new.board j).size ≡ (word_at s.board j).size
    go (inl e) = subst (λ n. (word_at new.board n).size ≡ (word_at s.board n).size) (sym e) (here one.filled one.adds (cases_lt x.place (length s.board.words)))
    go (inr apart) = ap (λ (v : Word). v.size) (one_words x s new one j apart)

-- another buffer of the acquisition stays its
one_away : (x : Retired) (s new : PlainState) (g : Given) → FillsOne x s new → g.place ≢ x.place → IsAway s g → IsAway new g
one_away x s new g one apart away = record {
  in_hand = one_hands x s new one g.place apart away.in_hand;
  lifted = ap (λ c. lying c g.place) one.contents ∙ set_apart s.contents x.place g.place (Some x.buf) apart ∙ away.lifted;
  size = away.size ∙ sym (ap (λ w. w.size) (one_words x s new one g.place apart));
  within = subst (λ n. g.place < n) (sym (ap length one.contents ∙ length-set s.contents x.place (Some x.buf))) away.within;
}

pub rest_away : (x : Retired) (s new : PlainState) (gs : List Given) → FillsOne x s new → AreApart x.place gs → AreAway s gs → AreAway new gs
rest_away x s new [] one apart away = away
rest_away x s new (g ∷ gs) one apart away = (one_away x s new g one apart.0 away.0, away.1, rest_away x s new gs one apart.1 away.2)

one_told : (told : List (Option Filling)) (x : Retired) (full : Bool) → contents_from told (entries_of acquirer (filled_or_laid x.place x.buf full)) ≡ set told x.place (Some x.buf)
one_told told x true = refl
one_told told x false = refl

one_left : (x : Retired) (s new : PlainState) (h : List Entry) (one : FillsOne x s new) → IsAway s (given_of x) → IsLeftBy s h → IsLeftBy new (h ++ entries_of acquirer (filled_or_laid x.place x.buf one.filled))
one_left x s new h one away left = record {
  board = stands_lists s.board new.board h acquirer (filled_or_laid x.place x.buf one.filled) left.board one.adds;
  lies = λ i. subst (λ (told : List (Option Filling)). LiesAsTold new.board new.contents told i)
      (sym (contents-append _ h (entries_of acquirer (filled_or_laid x.place x.buf one.filled)) ∙ one_told (contents_of h) x one.filled))
      (subst (λ (c : List (Option Filling)). LiesAsTold new.board c (set (contents_of h) x.place (Some x.buf)) i) (sym one.contents) (lies i (cases_eq i x.place) (left.lies i)));
}
  where
    owned : IsCounted s.board
    owned = subst IsCounted (sym left.board.state) (run_owned h left.board.run)

    below : x.place < length (contents_of h)
    below = let low : x.place < place_count = stands_below s.board x.place owned (hand_tally s.board acquirer x.place away.in_hand) in omega (arith, low, told_wide h)

    lies : (i : ℕ) → (i ≡ x.place) ⊎ (i ≢ x.place) → LiesAsTold s.board s.contents (contents_of h) i → LiesAsTold new.board (set s.contents x.place (Some x.buf)) (set (contents_of h) x.place (Some x.buf)) i
    lies i (inl e) told = inl (subst (λ n. lying (set s.contents x.place (Some x.buf)) n ≡ lying (set (contents_of h) x.place (Some x.buf)) n) (sym e)
        (get_or-set_same s.contents x.place (Some x.buf) nothing away.within ∙ sym (get_or-set_same (contents_of h) x.place (Some x.buf) nothing below)))
    lies i (inr apart) (inl e) = inl (set_apart s.contents x.place i (Some x.buf) apart ∙ e ∙ sym (set_apart (contents_of h) x.place i (Some x.buf) apart))
    lies i (inr apart) (inr lifted) = inr (set_apart s.contents x.place i (Some x.buf) apart ∙ lifted.0, one_hands x s new one i apart lifted.1)

ends_nobody : (i : ℕ) (f : Filling) (full : Bool) → EndNobody (filled_or_laid i f full)
ends_nobody i f true = (tt, tt)
ends_nobody i f false = (tt, (tt, tt))

pub one_actors : (x : Retired) (s new : PlainState) → FillsOne x s new → KeepsActors s.board new.board
one_actors x s new one = list_keeps s.board new.board acquirer (filled_or_laid x.place x.buf one.filled) (ends_nobody x.place x.buf one.filled) one.adds

-- What a fill by the mode added, in two parts: what was dropped, and the fill.
record Parts (mode : Mode) (count i : ℕ) (f : Filling) (filled : Bool) (b new : Board) : Type 0 where
  dropped : List ℕ
  counted : length dropped ≡ count
  front : List Event
  drops : DropsFor mode dropped front
  mid : Board
  adds : Adds b acquirer front mid
  step : AddsEntry mid acquirer (Fill i f filled) new

parts_of : (mode : Mode) (count i : ℕ) (f : Filling) (filled : Bool) (b new : Board) → AddsOf b acquirer (FillsDropping mode count i f filled) new → Parts mode count i f filled b new
parts_of mode count i f filled b new called =
    let fills = called.kind.fills in
    let front : List Event = fills.front in
    let is : entries_of acquirer called.events ≡ entries_of acquirer front ++ entries_of acquirer (Fill i f filled ∷ []) =
    ap (entries_of acquirer) fills.is ∙ entries_of-append acquirer front (Fill i f filled ∷ []) in
    let runs : RunsFrom b (entries_of acquirer front ++ entries_of acquirer (Fill i f filled ∷ [])) = subst (λ (h : List Entry). RunsFrom b h) is called.adds.runs in
    let mid : Board = after_from b (entries_of acquirer front) in
    record {
      dropped = called.kind.dropped;
      counted = called.kind.counted;
      front = front;
      drops = fills.drops;
      mid = mid;
      adds = record { runs = runs_front b (entries_of acquirer front) (entries_of acquirer (Fill i f filled ∷ [])) runs; after = refl };
      step = record {
        may = (runs_rest b (entries_of acquirer front) (entries_of acquirer (Fill i f filled ∷ [])) runs).0;
        after = called.adds.after ∙ (ap (after_from b) is ∙ after-append b (entries_of acquirer front) (entries_of acquirer (Fill i f filled ∷ [])));
      };
    }

pub one_filled : (mode : Mode) (x : Retired) (s new : PlainState) (a mid b : FillCounts) (count : ℕ) (end : FillEnd) (gone : List Gone) → end ≡ Filled → AddsOf s.board acquirer (FillsDropping mode count x.place x.buf (is_filled end)) new.board
    → new.contents ≡ contents_after_fill s.contents x.place x.buf (is_filled end) → mid ≡ with_dropped a count → b ≡ with_fill mid x.buf.rec.complete
    → gone ≡ map gone_of (take count s.board.out) → TellsOne mode x s a new b true gone
one_filled mode x s new a mid b count end gone is called_so contents_so dropped_is counted gone_is =
    let called : AddsOf s.board acquirer (FillsDropping mode count x.place x.buf true) new.board =
    subst (λ (e : FillEnd). AddsOf s.board acquirer (FillsDropping mode count x.place x.buf (is_filled e)) new.board) is called_so in
    let p : Parts mode count x.place x.buf true s.board new.board = parts_of mode count x.place x.buf true s.board new.board called in
    record {
      one = record {
        dropped = p.dropped;
        front = p.front;
        drops = p.drops;
        mid = p.mid;
        adds = p.adds;
        one = record {
          filled = true;
          adds = adds_one p.mid new.board acquirer (Fill x.place x.buf true) p.step;
          contents = contents_so ∙ ap (λ (e : FillEnd). contents_after_fill s.contents x.place x.buf (is_filled e)) is;
        };
        counted = counted ∙ ap (λ (c : FillCounts). with_fill c x.buf.rec.complete) (dropped_is ∙ ap (with_dropped a) (sym p.counted));
      };
      filled = refl;
      gone = gone_is ∙ ap (λ n. map gone_of (take n s.board.out)) (sym p.counted);
    }

-- the close mark stood: set down, and laid
pub one_laid : (mode : Mode) (x : Retired) (s mid down new : PlainState) (a b : FillCounts) (count : ℕ) (end : FillEnd) (back : Filling) (gone : List Gone) → end ≡ Closed back → AddsOf s.board acquirer (FillsDropping mode count x.place x.buf (is_filled end)) mid.board
    → mid.contents ≡ contents_after_fill s.contents x.place x.buf (is_filled end) → IfClosed end (λ came. came ≡ x.buf)
    → down.board ≡ mid.board → down.contents ≡ set mid.contents x.place (Some back) → AddsEntry down.board acquirer (Lay x.place) new.board → new.contents ≡ down.contents → b ≡ with_dropped a count
    → gone ≡ map gone_of (take count s.board.out) → TellsOne mode x s a new b false gone
one_laid mode x s mid down new a b count end back gone closed called_so contents_so came put contents lay same_too counted gone_is =
    let called : AddsOf s.board acquirer (FillsDropping mode count x.place x.buf false) mid.board =
    subst (λ (e : FillEnd). AddsOf s.board acquirer (FillsDropping mode count x.place x.buf (is_filled e)) mid.board) closed called_so in
    let same : mid.contents ≡ s.contents = contents_so ∙ ap (λ (e : FillEnd). contents_after_fill s.contents x.place x.buf (is_filled e)) closed in
    let is : back ≡ x.buf = subst (λ (e : FillEnd). IfClosed e (λ f. f ≡ x.buf)) closed came in
    let p : Parts mode count x.place x.buf false s.board mid.board = parts_of mode count x.place x.buf false s.board mid.board called in
    record {
      one = record {
        dropped = p.dropped;
        front = p.front;
        drops = p.drops;
        mid = p.mid;
        adds = p.adds;
        one = record {
          filled = false;
          adds = adds_after p.mid mid.board new.board acquirer (Fill x.place x.buf false) (Lay x.place ∷ []) p.step
              (adds_one mid.board new.board acquirer (Lay x.place) (subst (λ (b : Board). AddsEntry b acquirer (Lay x.place) new.board) put lay));
          contents = same_too ∙ contents ∙ ap (λ c. set c x.place (Some back)) same ∙ ap (λ (f : Filling). set s.contents x.place (Some f)) is;
        };
        counted = counted ∙ ap (with_dropped a) (sym p.counted);
      };
      filled = refl;
      gone = gone_is ∙ ap (λ n. map gone_of (take n s.board.out)) (sym p.counted);
    }

-- what a refused fill leaves
pub refused_size : (x : Retired) (s mid : PlainState) (back : Filling) → mid.board.words ≡ s.board.words → back ≡ x.buf → IsAway s (given_of x) → length back.bytes ≡ (word_at mid.board x.place).size
refused_size x s mid back words is away = ap (λ (f : Filling). length f.bytes) is ∙ away.size ∙ ap (λ (ws : List Word). (get_or ws x.place vacant).size) (sym words)

-- what was set down lies there
pub down_lies : (x : Retired) (s mid down : PlainState) (back : Filling) → mid.contents ≡ s.contents → down.contents ≡ set mid.contents x.place (Some back) → IsAway s (given_of x) → HasBuf down x.place
down_lies x s mid down back same put away none =
    something back (sym (get_or-set_same s.contents x.place (Some back) nothing away.within) ∙ ap (λ c. lying c x.place) (sym (put ∙ ap (λ c. set c x.place (Some back)) same)) ∙ none)
  where
    something : (f : Filling) → Some f ≡ nothing → ⊥
    something f e = cc

-- ---- all of them

pub fills_none : (mode : Mode) (s : PlainState) (a : FillCounts) → FillsAll mode [] s a s a
fills_none mode s a = record {
  events = [];
  filled = refl;
  adds = adds_none s.board acquirer;
  actors = λ n actor. actor;
  sizes = λ i. refl;
  left = λ h left. subst (λ (g : List Entry). IsLeftBy s g) (sym (append-nil h)) left;
  counted = refl;
}

-- what one fill counts
one_counted : (a : FillCounts) (i : ℕ) (f : Filling) (full : Bool) → counted_in a (entries_of acquirer (filled_or_laid i f full)) ≡ (if full then with_fill a f.rec.complete else a)
one_counted a i f true = refl
one_counted a i f false = refl

-- with what was dropped before it
both_counted : (mode : Mode) (a : FillCounts) (dropped : List ℕ) (front : List Event) (i : ℕ) (f : Filling) (full : Bool) → DropsFor mode dropped front
    → counted_in a (entries_of acquirer (front ++ filled_or_laid i f full)) ≡ (if full then with_fill (with_dropped a (length dropped)) f.rec.complete else with_dropped a (length dropped))
both_counted mode a dropped front i f full drops =
    ap (counted_in a) (entries_of-append acquirer front (filled_or_laid i f full))
    ∙ (counted-more a (entries_of acquirer front) (entries_of acquirer (filled_or_laid i f full))
    ∙ (ap (λ (c : FillCounts). counted_in c (entries_of acquirer (filled_or_laid i f full))) (drops_count mode a dropped front drops)
    ∙ one_counted (with_dropped a (length dropped)) i f full))

-- one of the acquisition's buffers once others were dropped
bare_away : (mode : Mode) (x : Retired) (s new : PlainState) (a b : FillCounts) (counts : CountsOne mode x s a new b) → IsAway s (given_of x) → IsAway (with_board s counts.mid) (given_of x)
bare_away mode x s new a b counts away =
    (away_held s counts.mid (given_of x ∷ []) (drops_keep mode s.board counts.mid counts.dropped counts.front counts.drops counts.adds) (away, tt, tt)).0

pub fills_more : (mode : Mode) (x : Retired) (xs : List Retired) (s mid new : PlainState) (a b c : FillCounts) → IsAway s (given_of x) → CountsOne mode x s a mid b → FillsAll mode xs mid b new c → FillsAll mode (x ∷ xs) s a new c
fills_more mode x xs s mid new a b c away counts rest = record {
  events = first ++ rest.events;
  filled = (first, rest.events, refl, fills_block mode x counts.dropped counts.front one.filled counts.drops, rest.filled);
  adds = adds_both s.board mid.board new.board acquirer first rest.events both rest.adds;
  actors = λ n actor. rest.actors n (one_actors x bare mid one n (drops_actors mode s.board counts.mid counts.dropped counts.front counts.drops counts.adds n actor));
  sizes = λ i. rest.sizes i ∙ (one_sizes x bare mid one i ∙ ap (λ (ws : List Word). (get_or ws i vacant).size) held.words);
  left = λ h left. subst (λ (g : List Entry). IsLeftBy new g)
      (append_assoc h (entries_of acquirer first) (entries_of acquirer rest.events) ∙ ap (λ g. h ++ g) (sym (entries_of-append acquirer first rest.events)))
      (rest.left (h ++ entries_of acquirer first) (first_left h left));
  counted =
      rest.counted
      ∙ (ap (λ (k : FillCounts). counted_in k (entries_of acquirer rest.events))
      (counts.counted ∙ sym (both_counted mode a counts.dropped counts.front x.place x.buf one.filled counts.drops))
      ∙ (sym (counted-more a (entries_of acquirer first) (entries_of acquirer rest.events)) ∙ ap (counted_in a) (sym (entries_of-append acquirer first rest.events))));
}
  where
    bare : PlainState
    bare = with_board s counts.mid

    one : FillsOne x bare mid
    one = counts.one

    fill : List Event
    fill = filled_or_laid x.place x.buf one.filled

    first : List Event
    first = counts.front ++ fill

    held : KeepsHeld s.board acquirer counts.mid
    held = drops_keep mode s.board counts.mid counts.dropped counts.front counts.drops counts.adds

    both : Adds s.board acquirer first mid.board
    both = adds_both s.board counts.mid mid.board acquirer counts.front fill counts.adds one.adds

    first_left : (h : List Entry) → IsLeftBy s h → IsLeftBy mid (h ++ entries_of acquirer first)
    first_left h left =
        subst (λ (g : List Entry). IsLeftBy mid g)
        (append_assoc h (entries_of acquirer counts.front) (entries_of acquirer fill) ∙ ap (λ g. h ++ g) (sym (entries_of-append acquirer counts.front fill)))
        (one_left x bare mid (h ++ entries_of acquirer counts.front) one (bare_away mode x s mid a b counts away)
        (left_held mode s counts.mid h counts.dropped counts.front counts.drops counts.adds left))

pub ready_after : {mode : Mode} {a b : FillCounts} (xs : List Retired) (s new : PlainState) → FillsAll mode xs s a new b → IsReady s → IsReady new
ready_after xs s new all ready = record {
  actors = λ k low. all.actors k (ready.actors k low);
  history = ready.history ++ entries_of acquirer all.events;
  left = all.left ready.history ready.left;
}

-- ---- the loop

pub keeps_twice : (a b c : Window) → KeepsBlocks a b → KeepsBlocks b c → KeepsBlocks a c
keeps_twice a b c first second = record {
  stands = λ q stands. second.stands q (first.stands q stands);
  buffers = second.buffers ∙ first.buffers;
  opens = second.opens ∙ first.opens;
  asked = second.asked ∙ first.asked;
  config = second.config ∙ first.config;
}

pub keeps_itself : (a : Window) → KeepsBlocks a a
keeps_itself a = record { stands = λ q stands. stands; buffers = refl; opens = refl; asked = refl; config = refl }

-- What is still to be filled, then what was.
pub record FillsOn (mode : Mode) (s : PlainState) (a : FillCounts) (now : PlainState) (b : FillCounts) (m n : Window) : Type 0 where
  pub goes_on : (new : PlainState) (c : FillCounts) → FillsAll mode (waiting_fills n) now b new c → FillsAll mode (waiting_fills m) s a new c
  pub away : AreAway now (map given_of (waiting_fills n) ++ buffers n)
  pub actor : IsActor now.board acquirer
  pub requests : waiting_requests n ≡ waiting_requests m
  pub rest : KeepsBlocks m n

-- nothing waits any longer
pub fills_done : (mode : Mode) (s now : PlainState) (a b : FillCounts) (m n : Window) → waiting_fills n ≡ [] → FillsOn mode s a now b m n → FillsAll mode (waiting_fills m) s a now b
fills_done mode s now a b m n none on = on.goes_on now b (subst (λ (xs : List Retired). FillsAll mode xs now b now b) (sym none) (fills_none mode now b))

pub away_done : {mode : Mode} {a b : FillCounts} (s now : PlainState) (m n after : Window) → waiting_fills n ≡ [] → KeepsBlocks n after → FillsOn mode s a now b m n → AreAway now (buffers after)
away_done s now m n after none rest on = subst (λ (gs : List Given). AreAway now gs) (ap (λ xs. map given_of xs ++ buffers n) none ∙ sym rest.buffers) on.away

-- the acquisition's other buffers behind one fill
rest_away_by : (mode : Mode) (x : Retired) (s new : PlainState) (a b : FillCounts) (gs : List Given) → CountsOne mode x s a new b → AreApart x.place gs → AreAway s gs → AreAway new gs
rest_away_by mode x s new a b gs counts apart away =
    rest_away x (with_board s counts.mid) new gs counts.one apart
    (away_held s counts.mid gs (drops_keep mode s.board counts.mid counts.dropped counts.front counts.drops counts.adds) away)

pub fills_on : (mode : Mode) (s now next : PlainState) (a b c : FillCounts) (m n after : Window) (x : Retired) → FillsOn mode s a now b m n → waiting_fills n ≡ x ∷ waiting_fills after → waiting_requests after ≡ waiting_requests n → KeepsBlocks n after → CountsOne mode x now b next c → FillsOn mode s a next c m after
fills_on mode s now next a b c m n after x on is requests rest counts = record {
  goes_on = λ new d all. on.goes_on new d (subst (λ (xs : List Retired). FillsAll mode xs now b new d) (sym is) (fills_more mode x (waiting_fills after) now next new b c d away.0 counts all));
  away = rest_away_by mode x now next b c (map given_of (waiting_fills after) ++ buffers after) counts away.1 away.2;
  actor = one_actors x (with_board now counts.mid) next counts.one acquirer (drops_actors mode now.board counts.mid counts.dropped counts.front counts.drops counts.adds acquirer on.actor);
  requests = requests ∙ on.requests;
  rest = keeps_twice m n after on.rest rest;
}
  where
    away : AreAway now (given_of x ∷ map given_of (waiting_fills after) ++ buffers after)
    away = subst (λ (gs : List Given). AreAway now gs) (ap (λ xs. map given_of xs ++ buffers n) is ∙ ap (λ gs. given_of x ∷ map given_of (waiting_fills after) ++ gs) (sym rest.buffers)) on.away

pub first_away : {mode : Mode} {a b : FillCounts} (s now : PlainState) (m n : Window) (x : Retired) (xs : List Retired) → FillsOn mode s a now b m n → waiting_fills n ≡ x ∷ xs → IsAway now (given_of x)
first_away s now m n x xs on is =
    let away : AreAway now (given_of x ∷ map given_of xs ++ buffers n) = subst (λ (gs : List Given). AreAway now gs) (ap (λ ys. map given_of ys ++ buffers n) is) on.away in
    away.0

-- ---- the acquisition's fills

own_fill : (c : List (Option Filling)) (e : Event) → FillsAsLay c acquirer e
own_fill c (Fill i f full) = inl refl
own_fill c e = tt

-- have no need of what lies there
pub own_fills : (c : List (Option Filling)) (es : List Event) → FillsFrom c (entries_of acquirer es)
own_fills c [] = tt
own_fills c (e ∷ es) = (own_fill c e, own_fills c es)

pub fills-append : (c : List (Option Filling)) (g h : List Entry) → FillsFrom c g → FillsFrom c h → FillsFrom c (g ++ h)
fills-append c [] h first second = second
fills-append c (e ∷ g) h first second = (first.0, fills-append c g h first.1 second)
