-- A datagram that wants a buffer: a place is claimed, the outcome is told, and the datagram is told again.
use Rattle.std.proofs.Common.{◌≡◌, ◌≢◌, ◌⊎◌, ℕ, ◌<◌, Bool, true, false, if◌then◌else◌, is_some, List, [], ◌∷◌, ◌++◌, length, set, get_or, Option, Some, None, refl, sym, ap, subst, ◌∙◌, inl, inr, arith, append_assoc}
use Rattle.std.specs.Prelude.{⊤}
use Rattle.std.proofs.lemmas.List.{length-set}
use Rattle.std.proofs.lemmas.Bool.{cases_eq}
use Rattle.gev_types.specs.Filling.{Filling}
use Rattle.board_machine.specs.declared.events.Entry.{Entry}
use Rattle.board_machine.specs.declared.events.Event.{Event}
use Rattle.gentl_types.specs.declared.word.Word.{Word}
use Rattle.board_machine.specs.Machine.{Board, item, IsActor, InHand, word_at, vacant}
use Rattle.board_machine.specs.Places.{tail}
use Rattle.board_machine.specs.Adding.{entries_of, Adds, AddsOf}
use Rattle.board_machine.specs.Histories.{RunsFrom}
use Rattle.board_machine.specs.Owners.{IsCounted}
use Rattle.board_machine.proofs.Adding.{adds_both, entries_of-append}
use Rattle.board_machine.proofs.Runs.{stands_lists, run_owned}
use Rattle.board_model.specs.Plain.{PlainState, lying, nothing, HasBuf}
use Rattle.board_model.specs.Holdings.{WasFirst}
use Rattle.board_model.proofs.CallsFill.{lying_within, lying_cleared}
use Rattle.acquisition_machine.specs.declared.config.AcqConfig.{AcqConfig}
use Rattle.acquisition_machine.specs.declared.need.Need.{Need}
use Rattle.acquisition_machine.specs.declared.need.Need.TheVariants.{Buffer}
use Rattle.acquisition_machine.specs.declared.retired.Retired.{Retired}
use Rattle.acquisition_machine.specs.Blocks.{Given}
use Rattle.acquisition_machine.specs.Machine.{Input, datagram, claimed}
use Rattle.acquisition_machine.specs.Runs.{turn}
use Rattle.acquisition_machine.specs.TurnLaws.{asked_by, answer_again, TakesGiven}
use Rattle.acquisition_machine.proofs.Once.{asks_once}
use Rattle.acq_core.specs.declared.window.Window.{Window}
use Rattle.acq_core.specs.Giving.{given_as}
use Rattle.acq_core.specs.Standing.{IsConfig}
use Rattle.acq_core.specs.Receiver.{config_of, asked_block, buffers, Stands, Takes, KeepsBlocks}
use Rattle.acq_core.specs.Waiting.{waiting_fills, waiting_requests}
use Rattle.board_calls.specs.declared.mode.Mode.{Mode}
use Rattle.board_calls.specs.Modes.{ClaimsFor}
use Rattle.script_trace.specs.Trace.{Trace, Part, board, acquirer}
use Rattle.script_trace.specs.Modes.{FillsInMode, place_of}
use Rattle.script_trace.proofs.Quiet.{claims_quiet}
use Rattle.script_trace.specs.Contents.{contents_of}
use Rattle.script_trace.specs.StreamLines.{HeardAgain, Hears, outcome, told_twice, retired_by, tells}
use Rattle.script_replay.specs.declared.fill_counts.FillCounts.{FillCounts}
use Rattle.script_replay.specs.Boards.{LiesAsTold, IsLeftBy, IsReady}
use Rattle.script_replay.specs.Acquiring.{IsAway, AreApart, AreAway, IsAtRest, FillsAll, Settled, IsBehindTrace, DrivesAt, Drives, Claims}
use Rattle.script_replay.specs.Telling.{claim_of, GaveWay, TellsClaim}
use Rattle.script_replay.specs.Counting.{counted_claim, counted_in}
use Rattle.script_replay.proofs.Counted.{counted-more, own_hands}
use Rattle.script_replay.proofs.Dropping.{Keeps, contents_quiet, claims_keep, claims_apart, none_counted, some_counted}
use Rattle.script_replay.proofs.Lines.{contents-append}
use Rattle.script_replay.proofs.Places.{set_apart}
use Rattle.script_replay.proofs.Retiring.{own_fills}
use Rattle.script_replay.proofs.Driving.{settles_with, none_called, turned}

-- ---- buffers beside a claimed one

-- what a claim and a lift leave of another buffer of the acquisition
pub record Beside (s new : PlainState) (j : ℕ) : Type 0 where
  pub hands : (i : ℕ) → InHand s.board acquirer i → InHand new.board acquirer i
  pub words : (i : ℕ) → word_at new.board i ≡ word_at s.board i
  pub lies : (i : ℕ) → i ≢ j → lying new.contents i ≡ lying s.contents i
  pub wide : length new.contents ≡ length s.contents

beside_one : (s new : PlainState) (j : ℕ) (g : Given) → Beside s new j → g.place ≢ j → IsAway s g → IsAway new g
beside_one s new j g beside apart away = record {
  in_hand = beside.hands g.place away.in_hand;
  lifted = beside.lies g.place apart ∙ away.lifted;
  size = away.size ∙ sym (ap (λ w. w.size) (beside.words g.place));
  within = subst (λ n. g.place < n) (sym beside.wide) away.within;
}

pub beside_all : (s new : PlainState) (j : ℕ) (gs : List Given) → Beside s new j → AreApart j gs → AreAway s gs → AreAway new gs
beside_all s new j [] beside apart away = away
beside_all s new j (g ∷ gs) beside apart away = (beside_one s new j g beside apart.0 away.0, away.1, beside_all s new j gs beside apart.1 away.2)

-- none of the acquisition's buffers has a place that is claimed
pub all_apart : (s : PlainState) (j : ℕ) (gs : List Given) → ((i : ℕ) → InHand s.board acquirer i → i ≢ j) → AreAway s gs → AreApart j gs
all_apart s j [] others away = tt
all_apart s j (g ∷ gs) others away = (others g.place away.0.in_hand, all_apart s j gs others away.2)

apart_more : (i : ℕ) (g : Given) (front back : List Given) → g.place ≢ i → AreApart i (front ++ back) → AreApart i (front ++ g ∷ back)
apart_more i g [] back here apart = (here, apart)
apart_more i g (x ∷ front) back here apart = (apart.0, apart_more i g front back here apart.1)

-- one more buffer among them
pub away_more : (s : PlainState) (g : Given) (front back : List Given) → IsAway s g → AreApart g.place (front ++ back) → AreAway s (front ++ back) → AreAway s (front ++ g ∷ back)
away_more s g [] back away apart all = (away, apart, all)
away_more s g (x ∷ front) back away apart all =
    (all.0, apart_more x.place g front back (λ e. apart.0 (sym e)) all.1, away_more s g front back away apart.1 all.2)

-- ---- the claim

-- the place that was claimed, with its buffer lifted
pub claimed_beside : (s mid new : PlainState) (place : ℕ) → Keeps s.board mid.board → mid.contents ≡ s.contents → new.board ≡ mid.board → new.contents ≡ set mid.contents place nothing → Beside s new place
claimed_beside s mid new place keeps same board_same gone = record {
  hands = λ i has. subst (λ (b : Board). InHand b acquirer i) (sym board_same) (omega (arith, keeps.hands i, has));
  words = λ i. ap (λ (b : Board). word_at b i) board_same ∙ ap (λ (ws : List Word). get_or ws i vacant) keeps.words;
  lies = λ i apart. ap (λ c. lying c i) gone ∙ set_apart mid.contents place i nothing apart ∙ ap (λ c. lying c i) same;
  wide = ap length gone ∙ length-set mid.contents place nothing ∙ ap length same;
}

pub claimed_away : (mid new : PlainState) (place : ℕ) (buf : Filling) → InHand mid.board acquirer place → HasBuf mid place → length buf.bytes ≡ (word_at mid.board place).size → new.board ≡ mid.board → new.contents ≡ set mid.contents place nothing
    → IsAway new (record { place = place; size = length buf.bytes })
claimed_away mid new place buf has lies size board_same gone = record {
  in_hand = subst (λ (b : Board). InHand b acquirer place) (sym board_same) has;
  lifted = ap (λ c. lying c place) gone ∙ lying_cleared mid.contents place;
  size = size ∙ ap (λ (b : Board). (word_at b place).size) (sym board_same);
  within = subst (λ n. place < n) (sym (ap length gone ∙ length-set mid.contents place nothing)) (lying_within mid.contents place lies);
}

claim_left : (mode : Mode) (claim : Option (ℕ × Bool)) (s new : PlainState) (h : List Entry) (events : List Event) → ClaimsFor mode claim events → Adds s.board acquirer events new.board
    → ((i : ℕ) → LiesAsTold new.board new.contents (contents_of h) i) → IsLeftBy s h → IsLeftBy new (h ++ entries_of acquirer events)
claim_left mode claim s new h events got adds lies left = record {
  board = stands_lists s.board new.board h acquirer events left.board adds;
  lies = λ i. subst (λ (told : List (Option Filling)). LiesAsTold new.board new.contents told i)
      (sym (contents-append _ h (entries_of acquirer events) ∙ contents_quiet (contents_of h) acquirer events (claims_quiet mode claim events got))) (lies i);
}

none_lies : (s new : PlainState) (told : List (Option Filling)) (i : ℕ) → Keeps s.board new.board → new.contents ≡ s.contents → LiesAsTold s.board s.contents told i → LiesAsTold new.board new.contents told i
none_lies s new told i keeps same (inl e) = inl (ap (λ c. lying c i) same ∙ e)
none_lies s new told i keeps same (inr lifted) = let mine = lifted.1 in inr (ap (λ c. lying c i) same ∙ lifted.0, omega (arith, keeps.hands i, mine))

beside_lies : (s new : PlainState) (told : List (Option Filling)) (i j : ℕ) → Beside s new j → IsAway new (record { place = j; size = (word_at new.board j).size }) → LiesAsTold s.board s.contents told i → LiesAsTold new.board new.contents told i
beside_lies s new told i j beside away as_told = go (cases_eq i j) as_told
  where
    go : (i ≡ j) ⊎ (i ≢ j) → LiesAsTold s.board s.contents told i → LiesAsTold new.board new.contents told i
    go (inl e) lies = inr (subst (λ n. lying new.contents n ≡ nothing) (sym e) away.lifted, subst (λ n. InHand new.board acquirer n) (sym e) away.in_hand)
    go (inr apart) (inl e) = inl (beside.lies i apart ∙ e)
    go (inr apart) (inr lifted) = inr (beside.lies i apart ∙ lifted.0, beside.hands i lifted.1)

well_owned : (s : PlainState) → IsReady s → IsCounted s.board
well_owned s ready = subst IsCounted (sym ready.left.board.state) (run_owned ready.history ready.left.board.run)

-- ---- what is told of a claim

some_same : (f g : Filling) → Some f ≡ Some g → f ≡ g
some_same f g e = cc

gave_way : (s mid : PlainState) (place : ℕ) (was_dropped : Bool) (buf : Filling) (dropped : Option ℕ) → (was_dropped ≡ true → WasFirst s place mid) → lying mid.contents place ≡ Some buf
    → dropped ≡ (if was_dropped then Some buf.rec.block else None) → GaveWay s.board.out place dropped
gave_way s mid place was_dropped buf dropped first lies is = subst (λ (k : Option ℕ). GaveWay s.board.out place k) (sym is) (go was_dropped first)
  where
    go : (b : Bool) → (b ≡ true → WasFirst s place mid) → GaveWay s.board.out place (if b then Some buf.rec.block else None)
    go false f = tt
    go true f =
        let was : WasFirst s place mid = f refl in
        (item place was.filling, tail s.board.out, was.first, refl, ap (λ (x : Filling). x.rec.block) (some_same was.filling buf (sym was.lies ∙ lies)))

same_claim : (place block : ℕ) (was_dropped : Bool) (dropped : Option ℕ) → dropped ≡ (if was_dropped then Some block else None) → (Some (place, was_dropped)) ≡ claim_of (Some (record { place = place; dropped = dropped }))
same_claim place block was_dropped dropped is = ap (λ b. Some (place, b)) (go was_dropped) ∙ ap (λ d. Some (place, is_some d)) (sym is)
  where
    go : (b : Bool) → b ≡ is_some (if b then Some block else None)
    go true = refl
    go false = refl

-- there was no place
pub claims_none : (mode : Mode) (s new : PlainState) (m n : Window) (a : FillCounts) → AddsOf s.board acquirer (ClaimsFor mode None) new.board → new.contents ≡ s.contents → Takes m n (claimed None) → TellsClaim None mode s m a new n a
claims_none mode s new m n a called same takes =
    let keeps : Keeps s.board new.board = claims_keep mode None called.events s.board new.board called.kind called.adds in
    record {
      is = refl;
      gave_way = tt;
      claims = record {
        claim = None;
        events = called.events;
        got = called.kind;
        adds = called.adds;
        actors = called.actors;
        words = keeps.words;
        takes = takes;
        left = λ h left. claim_left mode None s new h called.events called.kind called.adds (λ i. none_lies s new (contents_of h) i keeps same (left.lies i)) left;
        counted = none_counted mode a called.events called.kind;
      };
    }

none_one : (s new : PlainState) (g : Given) → Keeps s.board new.board → new.contents ≡ s.contents → IsAway s g → IsAway new g
none_one s new g keeps same away = record {
  in_hand = omega (arith, keeps.hands g.place, away.in_hand);
  lifted = ap (λ c. lying c g.place) same ∙ away.lifted;
  size = away.size ∙ ap (λ (ws : List Word). (get_or ws g.place vacant).size) (sym keeps.words);
  within = subst (λ n. g.place < n) (sym (ap length same)) away.within;
}

none_all : (s new : PlainState) (gs : List Given) → Keeps s.board new.board → new.contents ≡ s.contents → AreAway s gs → AreAway new gs
none_all s new [] keeps same away = away
none_all s new (g ∷ gs) keeps same away = (none_one s new g keeps same away.0, away.1, none_all s new gs keeps same away.2)

pub none_away : (mode : Mode) (s new : PlainState) (gs : List Given) → AddsOf s.board acquirer (ClaimsFor mode None) new.board → new.contents ≡ s.contents → AreAway s gs → AreAway new gs
none_away mode s new gs called same away = none_all s new gs (claims_keep mode None called.events s.board new.board called.kind called.adds) same away

-- a place was claimed, and its buffer lifted
pub claims_some : (mode : Mode) (s mid new : PlainState) (m n : Window) (a b : FillCounts) (place : ℕ) (was_dropped : Bool) (buf : Filling) (dropped : Option ℕ) → AddsOf s.board acquirer (ClaimsFor mode (Some (place, was_dropped))) mid.board → mid.contents ≡ s.contents
    → InHand mid.board acquirer place → HasBuf mid place → length buf.bytes ≡ (word_at mid.board place).size → new.board ≡ mid.board → new.contents ≡ set mid.contents place nothing
    → Takes m n (claimed (given_as (Some (place, buf)))) → b ≡ counted_claim a was_dropped
    → (was_dropped ≡ true → WasFirst s place mid) → lying mid.contents place ≡ Some buf → dropped ≡ (if was_dropped then Some buf.rec.block else None)
    → TellsClaim (Some (record { place = place; dropped = dropped })) mode s m a new n b
claims_some mode s mid new m n a b place was_dropped buf dropped called same has lies size board_same gone takes counted first content told = record {
  is = same_claim place buf.rec.block was_dropped dropped told;
  gave_way = gave_way s mid place was_dropped buf dropped first content told;
  claims = record {
    claim = Some (place, was_dropped);
    events = called.events;
    got = called.kind;
    adds = adds;
    actors = λ k is. subst (λ (c : Board). IsActor c k) (sym board_same) (called.actors k is);
    words = ap (λ (c : Board). c.words) board_same ∙ keeps.words;
    takes = subst (λ (k : ℕ). Takes m n (claimed (Some (record { place = place; size = k })))) (size ∙ ap (λ (ws : List Word). (get_or ws place vacant).size) keeps.words) takes;
    left = λ h left. claim_left mode (Some (place, was_dropped)) s new h called.events called.kind adds
        (λ i. beside_lies s new (contents_of h) i place (claimed_beside s mid new place keeps same board_same gone) away (left.lies i)) left;
    counted = some_counted mode a b place was_dropped called.events called.kind counted;
  };
}
  where
    keeps : Keeps s.board mid.board
    keeps = claims_keep mode (Some (place, was_dropped)) called.events s.board mid.board called.kind called.adds

    adds : Adds s.board acquirer called.events new.board
    adds = record { runs = called.adds.runs; after = board_same ∙ called.adds.after }

    away : IsAway new (record { place = place; size = (word_at new.board place).size })
    away = subst (λ (k : ℕ). IsAway new (record { place = place; size = k })) (size ∙ ap (λ (b : Board). (word_at b place).size) (sym board_same)) (claimed_away mid new place buf has lies size board_same gone)

given_away : (s new : PlainState) (g : Given) (asked : Option ℕ) (before after : List Given) → TakesGiven (Some g) asked before after → Beside s new g.place → AreApart g.place before → IsAway new g → AreAway s before → AreAway new after
given_away s new g None before after takes beside apart mine away = subst (λ (gs : List Given). AreAway new gs) (sym takes) (beside_all s new g.place before beside apart away)
given_away s new g (Some b) before after takes beside apart mine away =
    subst (λ (gs : List Given). AreAway new gs) (sym takes.are)
    (away_more new g takes.front takes.back mine (subst (λ (gs : List Given). AreApart g.place gs) takes.were apart)
    (subst (λ (gs : List Given). AreAway new gs) takes.were (beside_all s new g.place before beside apart away)))

pub some_away : (mode : Mode) (s mid new : PlainState) (m n : Window) (place : ℕ) (was_dropped : Bool) (buf : Filling) → IsReady s → AddsOf s.board acquirer (ClaimsFor mode (Some (place, was_dropped))) mid.board → mid.contents ≡ s.contents
    → InHand mid.board acquirer place → HasBuf mid place → length buf.bytes ≡ (word_at mid.board place).size → new.board ≡ mid.board → new.contents ≡ set mid.contents place nothing
    → TakesGiven (given_as (Some (place, buf))) (asked_block m) (buffers m) (buffers n) → AreAway s (buffers m) → AreAway new (buffers n)
some_away mode s mid new m n place was_dropped buf ready called same has lies size board_same gone takes away =
    given_away s new (record { place = place; size = length buf.bytes }) (asked_block m) (buffers m) (buffers n) takes
    (claimed_beside s mid new place (claims_keep mode (Some (place, was_dropped)) called.events s.board mid.board called.kind called.adds) same board_same gone)
    (all_apart s place (buffers m) (λ i mine. claims_apart mode s.board i place was_dropped called.events (well_owned s ready) called.kind called.adds.runs mine) away)
    (claimed_away mid new place buf has lies size board_same gone) away

pub claims_ready : {mode : Mode} {a b : FillCounts} (s new : PlainState) (m n : Window) → Claims mode s m a new n b → IsReady s → IsReady new
claims_ready s new m n claims ready = record {
  actors = λ k low. claims.actors k (ready.actors k low);
  history = ready.history ++ entries_of acquirer claims.events;
  left = claims.left ready.history ready.left;
}

-- ---- a datagram

-- what an input left, where its buffers were filled
pub settled_by : (mode : Mode) (s new : PlainState) (m mid n : Window) (a b : FillCounts) (i : Input) → Takes m mid i → KeepsBlocks mid n → waiting_fills m ≡ [] → FillsAll mode (waiting_fills mid) s a new b → Settled mode i s m a new n b
settled_by mode s new m mid n a b i takes keeps none all = record { retired = waiting_fills mid; turned = turned m mid n i takes keeps none; all = all }

-- where the trace is in this mode, a datagram is heard so
abbrev pub HearsIn : AcqConfig → Mode → List ℕ → Trace → Part → Type 0
HearsIn c mode bytes t part = t.mode ≡ mode → Hears c t bytes (asked_by (turn c t.inputs (datagram bytes)).need) part

-- the same, and something of the part
abbrev pub HearsAnd : AcqConfig → Mode → List ℕ → (Trace → Part → Type 0) → Trace → Part → Type 0
HearsAnd c mode bytes Also t part = HearsIn c mode bytes t part × Also t part

-- A datagram that wants no buffer.
pub hears_with : (mode : Mode) (s new : PlainState) (m n : Window) (a b : FillCounts) (bytes : List ℕ) (need : Need) (settled : Settled mode (datagram bytes) s m a new n b) → ((q : List Input) → Stands m q → (turn (config_of m) q (datagram bytes)).need ≡ Some need) → asked_by (Some need) ≡ None
    → (Also : Trace → Part → Type 0) (t : Trace) → IsBehindTrace t s m → Also t (tells t [] (datagram bytes) settled.all.events []) → DrivesAt (HearsAnd (config_of m) mode bytes Also) 0 a [] new n b t
hears_with mode s new m n a b bytes need settled answer none Also t behind also =
    settles_with mode s s new m n a b [] (datagram bytes) settled.retired [] [] (HearsAnd (config_of m) mode bytes Also) t settled.all
    (λ filled. (
      λ same. subst (λ (wanted : Option ℕ). Hears (config_of m) t bytes wanted (tells t [] (datagram bytes) settled.all.events [])) (sym (ap asked_by (answer t.inputs behind.inputs) ∙ none))
          (record { events = settled.all.events; filled = subst (λ (k : Mode). FillsInMode k (retired_by (config_of m) t.inputs (datagram bytes)) settled.all.events) (sym same) filled; is = refl }),
      also,
    ))
    (none_called s) settled.turned refl behind

-- the first of two facts of a part
pub drives_first : (Line Also : Trace → Part → Type 0) (idle : ℕ) (a : FillCounts) (said : List ℕ) (new : PlainState) (n : Window) (b : FillCounts) (t : Trace) → DrivesAt (λ u part. Line u part × Also u part) idle a said new n b t → DrivesAt Line idle a said new n b t
drives_first Line Also idle a said new n b t did = record {
  part = did.part;
  spells = did.spells.0;
  runs = did.runs;
  fills = did.fills;
  handles = did.handles;
  idles = did.idles;
  text = did.text;
  mode = did.mode;
  told_mode = did.told_mode;
  none_taken = did.none_taken;
  behind = did.behind;
  counted = did.counted;
}

pub hears_at : (mode : Mode) (s new : PlainState) (m n : Window) (a b : FillCounts) (bytes : List ℕ) (need : Need) → Settled mode (datagram bytes) s m a new n b → ((q : List Input) → Stands m q → (turn (config_of m) q (datagram bytes)).need ≡ Some need) → asked_by (Some need) ≡ None
    → Drives (HearsIn (config_of m) mode bytes) 0 s m a [] new n b
hears_at mode s new m n a b bytes need settled answer none t behind =
    drives_first (HearsIn (config_of m) mode bytes) (λ u part. ⊤) 0 a [] new n b t
    (hears_with mode s new m n a b bytes need settled answer none (λ u part. ⊤) t behind tt)

-- what the receiver was told of a datagram that wants a buffer
twice : (q : List Input) (i j k : Input) → ((q ++ i ∷ []) ++ j ∷ []) ++ k ∷ [] ≡ q ++ i ∷ j ∷ k ∷ []
twice q i j k = append_assoc (q ++ i ∷ []) (j ∷ []) (k ∷ []) ∙ append_assoc q (i ∷ []) (j ∷ k ∷ [])

-- what a datagram that wants a buffer adds
abbrev pub heard_part : Trace → List ℕ → List Event → Option ℕ → Part
heard_part t bytes events got = record {
  entries = entries_of acquirer events;
  inputs = told_twice t bytes got;
  handles = t.handles;
  idle = 0;
  text = [];
  mode = t.mode;
  told_mode = t.told_mode;
}

-- A datagram that wants a buffer.
pub hears_twice_with : (mode : Mode) (s given_up given new : PlainState) (m first held n : Window) (a b k c : FillCounts) (bytes : List ℕ) (block : ℕ) (settled : Settled mode (datagram bytes) s m a given_up first b) (claims : Claims mode given_up first b given held k)
    (again : Settled mode (datagram bytes) given held k new n c) → ((q : List Input) → Stands m q → (turn (config_of m) q (datagram bytes)).need ≡ Some (Buffer block))
    → (Also : Trace → Part → Type 0) (t : Trace) → IsBehindTrace t s m → Also t (heard_part t bytes (settled.all.events ++ (claims.events ++ again.all.events)) (place_of claims.claim))
    → DrivesAt (HearsAnd (config_of m) mode bytes Also) 0 a [] new n c t
hears_twice_with mode s given_up given new m first held n a b k c bytes block settled claims again answer Also t behind also = record {
  part = part;
  spells = (λ same. subst (λ (wanted : Option ℕ). Hears (config_of m) t bytes wanted part) (sym (ap asked_by (answer t.inputs behind.inputs))) (heard same), also);
  runs = runs_three;
  fills = own_fills (contents_of t.entries) (one ++ (get ++ two));
  handles = refl;
  idles = refl;
  text = refl;
  mode = refl;
  told_mode = refl;
  none_taken = own_hands (one ++ (get ++ two));
  behind = record {
    board = subst (λ (h : List Entry). IsLeftBy new h) entries (again.all.left ((t.entries ++ entries_of acquirer one) ++ entries_of acquirer get) (claims.left (t.entries ++ entries_of acquirer one) (settled.all.left t.entries behind.board)));
    inputs = subst (λ (q : List Input). Stands n q) (twice t.inputs (datagram bytes) (claimed (outcome (board t) got)) (datagram bytes)) (again.turned.stands ((t.inputs ++ datagram bytes ∷ []) ++ claimed (outcome (board t) got) ∷ []) held_stands);
  };
  counted = counted;
}
  where
    one : List Event
    one = settled.all.events

    get : List Event
    get = claims.events

    two : List Event
    two = again.all.events

    got : Option ℕ
    got = place_of claims.claim

    part : Part
    part = heard_part t bytes (one ++ (get ++ two)) got

    same_words : (claim : Option ℕ) → outcome given_up.board claim ≡ outcome (board t) claim
    same_words None = refl
    same_words (Some place) =
        ap (λ (k : ℕ). Some (record { place = place; size = k }))
        (settled.all.sizes place ∙ ap (λ (b : Board). (word_at b place).size) behind.board.board.state)

    first_stands : Stands first (t.inputs ++ datagram bytes ∷ [])
    first_stands = settled.turned.stands t.inputs behind.inputs

    held_stands : Stands held ((t.inputs ++ datagram bytes ∷ []) ++ claimed (outcome (board t) got) ∷ [])
    held_stands = subst (λ (g : Option Given). Stands held ((t.inputs ++ datagram bytes ∷ []) ++ claimed g ∷ [])) (same_words got) (claims.takes.stands (t.inputs ++ datagram bytes ∷ []) first_stands)

    config_held : config_of held ≡ config_of m
    config_held = claims.takes.config ∙ settled.turned.config

    parts : entries_of acquirer (one ++ (get ++ two)) ≡ entries_of acquirer one ++ (entries_of acquirer get ++ entries_of acquirer two)
    parts = entries_of-append acquirer one (get ++ two) ∙ ap (λ h. entries_of acquirer one ++ h) (entries_of-append acquirer get two)

    entries : ((t.entries ++ entries_of acquirer one) ++ entries_of acquirer get) ++ entries_of acquirer two ≡ t.entries ++ entries_of acquirer (one ++ (get ++ two))
    entries =
        append_assoc (t.entries ++ entries_of acquirer one) (entries_of acquirer get) (entries_of acquirer two)
        ∙ append_assoc t.entries (entries_of acquirer one) (entries_of acquirer get ++ entries_of acquirer two)
        ∙ ap (λ h. t.entries ++ h) (sym parts)

    counted : c ≡ counted_in a part.entries
    counted =
        again.all.counted
        ∙ (ap (λ (x : FillCounts). counted_in x (entries_of acquirer two)) (claims.counted ∙ ap (λ (x : FillCounts). counted_in x (entries_of acquirer get)) settled.all.counted)
        ∙ (sym (counted-more (counted_in a (entries_of acquirer one)) (entries_of acquirer get) (entries_of acquirer two))
        ∙ (sym (counted-more a (entries_of acquirer one) (entries_of acquirer get ++ entries_of acquirer two)) ∙ ap (counted_in a) (sym parts))))

    all_adds : Adds s.board acquirer (one ++ (get ++ two)) new.board
    all_adds =
        adds_both s.board given_up.board new.board acquirer one (get ++ two) settled.all.adds
        (adds_both given_up.board given.board new.board acquirer get two claims.adds again.all.adds)

    runs_three : RunsFrom (board t) (entries_of acquirer (one ++ (get ++ two)))
    runs_three = subst (λ (b : Board). RunsFrom b (entries_of acquirer (one ++ (get ++ two)))) behind.board.board.state all_adds.runs

    second_retired : again.retired ≡ retired_by (config_of m) (t.inputs ++ datagram bytes ∷ claimed (outcome (board t) got) ∷ []) (datagram bytes)
    second_retired =
        again.turned.fills ((t.inputs ++ datagram bytes ∷ []) ++ claimed (outcome (board t) got) ∷ []) held_stands
        ∙ ap (λ (g : AcqConfig). retired_by g ((t.inputs ++ datagram bytes ∷ []) ++ claimed (outcome (board t) got) ∷ []) (datagram bytes)) config_held
        ∙ ap (λ (q : List Input). retired_by (config_of m) q (datagram bytes)) (append_assoc t.inputs (datagram bytes ∷ []) (claimed (outcome (board t) got) ∷ []))

    in_mode : (x : Mode) (ys zs : List Retired) (es : List Event) → x ≡ mode → ys ≡ zs → FillsInMode mode ys es → FillsInMode x zs es
    in_mode x ys zs es same is filled = subst (λ (k : Mode). FillsInMode k zs es) (sym same) (subst (λ (xs : List Retired). FillsInMode mode xs es) is filled)

    heard : t.mode ≡ mode → HeardAgain (config_of m) t bytes part
    heard same = record {
      first = one;
      claim = claims.claim;
      claims = get;
      second = two;
      displaced = in_mode t.mode settled.retired _ one same (settled.turned.fills t.inputs behind.inputs) settled.all.filled;
      got = subst (λ (k : Mode). ClaimsFor k claims.claim get) (sym same) claims.got;
      filled = in_mode t.mode again.retired _ two same second_retired again.all.filled;
      is = refl;
    }

pub hears_twice : (mode : Mode) (s given_up given new : PlainState) (m first held n : Window) (a b k c : FillCounts) (bytes : List ℕ) (block : ℕ) → Settled mode (datagram bytes) s m a given_up first b → Claims mode given_up first b given held k
    → Settled mode (datagram bytes) given held k new n c → ((q : List Input) → Stands m q → (turn (config_of m) q (datagram bytes)).need ≡ Some (Buffer block))
    → Drives (HearsIn (config_of m) mode bytes) 0 s m a [] new n c
hears_twice mode s given_up given new m first held n a b k c bytes block settled claims again answer t behind =
    drives_first (HearsIn (config_of m) mode bytes) (λ u part. ⊤) 0 a [] new n c t
    (hears_twice_with mode s given_up given new m first held n a b k c bytes block settled claims again answer (λ u part. ⊤) t behind tt)

-- after the outcome was told, the datagram asks for no buffer
pub asks_no_more : {mode : Mode} {a b k : FillCounts} (s given_up given : PlainState) (m first held : Window) (bytes : List ℕ) (block : ℕ) (q : List Input) (again : Need) → IsConfig (config_of m) → Stands m q → Settled mode (datagram bytes) s m a given_up first b → Claims mode given_up first b given held k
    → ((r : List Input) → Stands m r → (turn (config_of m) r (datagram bytes)).need ≡ Some (Buffer block))
    → ((r : List Input) → Stands held r → (turn (config_of held) r (datagram bytes)).need ≡ Some again) → asked_by (Some again) ≡ None
asks_no_more s given_up given m first held bytes block q again config stands settled claims answer answer_too =
    ap asked_by (sym (answer_too r held_stands) ∙ ap (λ (c : AcqConfig). (turn c r (datagram bytes)).need) (claims.takes.config ∙ settled.turned.config)
    ∙ ap (λ (p : List Input). (turn (config_of m) p (datagram bytes)).need) (append_assoc q (datagram bytes ∷ []) (claimed (outcome given_up.board (place_of claims.claim)) ∷ []))
    ∙ asks_once (config_of m) q bytes block (outcome given_up.board (place_of claims.claim)) config.window_some (answer q stands))
    ∙ none_again (outcome given_up.board (place_of claims.claim))
  where
    r : List Input
    r = (q ++ datagram bytes ∷ []) ++ claimed (outcome given_up.board (place_of claims.claim)) ∷ []

    held_stands : Stands held r
    held_stands = claims.takes.stands (q ++ datagram bytes ∷ []) (settled.turned.stands q stands)

    none_again : (given : Option Given) → asked_by (Some (answer_again given)) ≡ None
    none_again None = refl
    none_again (Some g) = refl

pub hear_rests : {mode : Mode} {a b : FillCounts} (s new : PlainState) (m n : Window) (bytes : List ℕ) → IsAtRest s m → Settled mode (datagram bytes) s m a new n b → IsReady new → waiting_fills n ≡ [] → waiting_requests n ≡ [] → asked_block n ≡ None → AreAway new (buffers n) → IsAtRest new n
hear_rests s new m n bytes rest settled ready no_fill no_request asked away = record {
  ready = ready;
  config = subst IsConfig (sym settled.turned.config) rest.config;
  no_fill = no_fill;
  no_request = no_request;
  inputs = rest.inputs ++ datagram bytes ∷ [];
  stands = settled.turned.stands rest.inputs rest.stands;
  unasked = asked;
  away = away;
}

pub hear_rests_again : {mode : Mode} {a b k c : FillCounts} (s given_up given new : PlainState) (m first held n : Window) (bytes : List ℕ) → IsAtRest s m → Settled mode (datagram bytes) s m a given_up first b → Claims mode given_up first b given held k → Settled mode (datagram bytes) given held k new n c
    → IsReady new → waiting_fills n ≡ [] → waiting_requests n ≡ [] → asked_block n ≡ None → AreAway new (buffers n) → IsAtRest new n
hear_rests_again s given_up given new m first held n bytes rest settled claims again ready no_fill no_request asked away = record {
  ready = ready;
  config = subst IsConfig (sym (again.turned.config ∙ claims.takes.config ∙ settled.turned.config)) rest.config;
  no_fill = no_fill;
  no_request = no_request;
  inputs = ((rest.inputs ++ datagram bytes ∷ []) ++ claimed (outcome given_up.board (place_of claims.claim)) ∷ []) ++ datagram bytes ∷ [];
  stands = again.turned.stands ((rest.inputs ++ datagram bytes ∷ []) ++ claimed (outcome given_up.board (place_of claims.claim)) ∷ [])
      (claims.takes.stands (rest.inputs ++ datagram bytes ∷ []) (settled.turned.stands rest.inputs rest.stands));
  unasked = asked;
  away = away;
}
