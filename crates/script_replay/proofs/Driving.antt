-- Lines that drive the acquisition: what its turn gives is filled behind the events of a call.
use Rattle.std.proofs.Common.{◌≡◌, ◌≢◌, ℕ, ◌<◌, false, List, [], ◌∷◌, ◌++◌, length, map, codes, None, Ok, Err, refl, sym, ap, subst, ◌∙◌, arith, append-nil, append_assoc}
use Rattle.gentl_types.specs.declared.errors.GcError.{GcError}
use Rattle.gev_report.specs.ReplayLines.{request_line}
use Rattle.board_machine.specs.declared.events.Entry.{Entry}
use Rattle.board_machine.specs.declared.events.Event.{Event}
use Rattle.board_machine.specs.declared.events.Event.TheVariants.{LookOut, Start}
use Rattle.board_machine.specs.Machine.{Board, word_at}
use Rattle.board_machine.specs.Owners.{IsCounted}
use Rattle.board_machine.specs.Adding.{entries_of, AddsOf, Adds}
use Rattle.board_machine.specs.Histories.{RunsFrom, after_from, own_of}
use Rattle.board_machine.specs.Handout.{handed}
use Rattle.board_machine.proofs.Adding.{adds_none}
use Rattle.board_machine.proofs.Runs.{runs-append, run_owned}
use Rattle.board_machine.proofs.Others.{others_run}
use Rattle.board_calls.specs.Calls.{Starts, Stops}
use Rattle.board_model.specs.Plain.{PlainState, lying}
use Rattle.acquisition_machine.specs.declared.config.AcqConfig.{AcqConfig}
use Rattle.acquisition_machine.specs.declared.retired.Retired.{Retired}
use Rattle.acquisition_machine.specs.Blocks.{Given, fills}
use Rattle.acquisition_machine.specs.Machine.{Input, Request, request_bytes, tick, stop, restart}
use Rattle.acquisition_machine.specs.Runs.{turn}
use Rattle.acquisition_machine.specs.TurnLaws.{given_of}
use Rattle.acq_core.specs.declared.window.Window.{Window}
use Rattle.acq_core.specs.Standing.{IsConfig}
use Rattle.acq_core.specs.Receiver.{config_of, asked_block, buffers, Stands, Takes, KeepsBuffers, KeepsBlocks}
use Rattle.acq_core.specs.Waiting.{waiting_fills, waiting_requests}
use Rattle.board_calls.specs.declared.mode.Mode.{Mode}
use Rattle.board_calls.specs.declared.mode.Mode.TheVariants.{OldestFirst}
use Rattle.script_trace.specs.Trace.{Trace, Part, board, caller, acquirer, acts}
use Rattle.script_trace.specs.Modes.{FillsInMode, handed_out}
use Rattle.script_trace.specs.Contents.{contents_of}
use Rattle.script_trace.specs.StreamLines.{tells, retired_by, requests_text, TickLine, StopLine, StartLine}
use Rattle.script_trace.specs.Answers.{done_text, refused_text}
use Rattle.script_replay.specs.declared.fill_counts.FillCounts.{FillCounts}
use Rattle.script_replay.specs.Boards.{IsLeftBy, IsReady, Acts, ActsAs}
use Rattle.script_replay.specs.Acquiring.{IsAway, AreAway, IsAtRest, FillsAll, lines_of, Turned, IsBehindTrace, DrivesAt, Drives}
use Rattle.script_replay.specs.Counting.{counted_in}
use Rattle.script_replay.proofs.Counted.{taken-append, own_hands, others_hand, counted-more, counted-none}
use Rattle.script_replay.proofs.Quiet.{AreQuiet, quiet_fills, quiet_hands, start_quiet, stop_quiet}
use Rattle.script_replay.proofs.Lines.{left_quiet, quiet_acts, quiet_ready, stays_in_hand, caller_apart}
use Rattle.script_replay.proofs.Retiring.{keeps_twice, keeps_itself, fills_none, own_fills, fills-append, ready_after}

-- A call of a line added these events, which leave alone what lies at the places.
pub record Called (s : PlainState) (calls : List Event) (mid : PlainState) : Type 0 where
  pub adds : Adds s.board caller calls mid.board
  pub quiet : AreQuiet calls
  pub left : (h : List Entry) → IsLeftBy s h → IsLeftBy mid (h ++ entries_of caller calls)

pub none_called : (s : PlainState) → Called s [] s
none_called s = record { adds = adds_none s.board caller; quiet = tt; left = λ h left. subst (λ (g : List Entry). IsLeftBy s g) (sym (append-nil h)) left }

pub turned : (m mid n : Window) (i : Input) → Takes m mid i → KeepsBlocks mid n → waiting_fills m ≡ [] → Turned m n i (waiting_fills mid)
turned m mid n i takes keeps none = record {
  stands = λ q stands. keeps.stands (q ++ i ∷ []) (takes.stands q stands);
  fills = λ q stands. takes.fills q stands ∙ ap (λ xs. xs ++ fills (config_of m).p (turn (config_of m) q i).retired) none;
  config = keeps.config ∙ takes.config;
}

-- The line settles, and these are its fills.
pub settles_with : (mode : Mode) (s mid new : PlainState) (m n : Window) (a b : FillCounts) (calls : List Event) (i : Input) (xs : List Retired) (text said : List ℕ) (Line : Trace → Part → Type 0) (t : Trace) (all : FillsAll mode xs mid a new b)
    → (FillsInMode mode (retired_by (config_of m) t.inputs i) all.events → Line t (tells t calls i all.events text))
    → Called s calls mid → Turned m n i xs → said ≡ text → IsBehindTrace t s m → DrivesAt Line 0 a said new n b t
settles_with mode s mid new m n a b calls i xs text said Line t all spells called goes is behind = record {
  part = tells t calls i all.events text;
  spells = spells (subst (λ (ys : List Retired). FillsInMode mode ys all.events) (goes.fills t.inputs behind.inputs) all.filled);
  runs = runs-append (board t) (entries_of caller calls) (entries_of acquirer all.events) first second;
  fills = fills-append (contents_of t.entries) (entries_of caller calls) (entries_of acquirer all.events) (quiet_fills (contents_of t.entries) caller calls called.quiet) (own_fills (contents_of t.entries) all.events);
  handles = refl;
  idles = refl;
  text = sym is;
  mode = refl;
  told_mode = refl;
  none_taken =
      taken-append _ (entries_of caller calls) (entries_of acquirer all.events)
      ∙ (ap (λ is. is ++ handed_out (entries_of acquirer all.events)) (others_hand caller calls caller_apart ∙ quiet_hands caller calls called.quiet) ∙ own_hands all.events);
  behind = record {
    board = subst (λ (h : List Entry). IsLeftBy new h) (append_assoc t.entries (entries_of caller calls) (entries_of acquirer all.events)) (all.left (t.entries ++ entries_of caller calls) (called.left t.entries behind.board));
    inputs = goes.stands t.inputs behind.inputs;
  };
  counted =
      all.counted
      ∙ (ap (λ (k : FillCounts). counted_in k (entries_of acquirer all.events)) (sym (counted-none a caller calls caller_apart))
      ∙ sym (counted-more a (entries_of caller calls) (entries_of acquirer all.events)));
}
  where
    first : RunsFrom (board t) (entries_of caller calls)
    first = subst (λ (b : Board). RunsFrom b (entries_of caller calls)) behind.board.board.state called.adds.runs

    second : RunsFrom (after_from (board t) (entries_of caller calls)) (entries_of acquirer all.events)
    second = subst (λ (b : Board). RunsFrom b (entries_of acquirer all.events)) (called.adds.after ∙ ap (λ (b : Board). after_from b (entries_of caller calls)) behind.board.board.state) all.adds.runs

-- The line settles.
pub settles_at : (mode : Mode) (s mid new : PlainState) (m n : Window) (a b : FillCounts) (calls : List Event) (i : Input) (xs : List Retired) (text said : List ℕ) (Line : Trace → Part → Type 0) (t : Trace)
    → ((es : List Event) → FillsInMode mode (retired_by (config_of m) t.inputs i) es → Line t (tells t calls i es text))
    → Called s calls mid → FillsAll mode xs mid a new b → Turned m n i xs → said ≡ text → IsBehindTrace t s m → DrivesAt Line 0 a said new n b t
settles_at mode s mid new m n a b calls i xs text said Line t spells called all goes is behind =
    settles_with mode s mid new m n a b calls i xs text said Line t all (spells all.events) called goes is behind

-- ---- at rest again

-- what waits after an input, with what stays, is the acquisition's
pub away_before : (s : PlainState) (m mid : Window) → waiting_fills m ≡ [] → KeepsBuffers m mid → AreAway s (buffers m) → AreAway s (map given_of (waiting_fills mid) ++ buffers mid)
away_before s m mid none keeps away =
    subst (λ (gs : List Given). AreAway s gs) (sym (keeps ∙ ap (λ xs. map given_of xs ++ buffers m) none)) away

pub rests : {mode : Mode} {a b : FillCounts} (xs : List Retired) (s new : PlainState) (m mid n : Window) (i : Input) → IsAtRest s m → Takes m mid i → KeepsBlocks mid n → asked_block mid ≡ None → IsReady s → FillsAll mode xs s a new b → waiting_fills n ≡ [] → waiting_requests n ≡ [] → AreAway new (buffers n) → IsAtRest new n
rests xs s new m mid n i rest takes keeps asked ready all no_fill no_request away = record {
  ready = ready_after xs s new all ready;
  config = subst IsConfig (sym (keeps.config ∙ takes.config)) rest.config;
  inputs = rest.inputs ++ i ∷ [];
  stands = keeps.stands (rest.inputs ++ i ∷ []) (takes.stands rest.inputs rest.stands);
  no_fill = no_fill;
  no_request = no_request;
  unasked = keeps.asked ∙ asked;
  away = away;
}

-- ---- calls of the stream

-- a call that leaves alone what lies at the places
pub called_by : (s mid : PlainState) (Kind : List Event → Type 0) → ((es : List Event) → Kind es → AreQuiet es) → (called : AddsOf s.board caller Kind mid.board) → mid.contents ≡ s.contents → Called s called.events mid
called_by s mid Kind quiet called same = record {
  adds = called.adds;
  quiet = quiet called.events called.kind;
  left = λ h left. left_quiet s mid caller Kind h caller_apart called (quiet called.events called.kind) same left;
}

none_own : (es : List Event) → own_of acquirer (entries_of caller es) ≡ []
none_own [] = refl
none_own (e ∷ es) = none_own es

-- leaves the acquisition's buffers where they are
away_one : (s mid : PlainState) (Kind : List Event → Type 0) (g : Given) → IsReady s → AddsOf s.board caller Kind mid.board → mid.contents ≡ s.contents → IsAway s g → IsAway mid g
away_one s mid Kind g ready called same away = record {
  in_hand = stays_in_hand s mid.board caller Kind g.place caller_apart called away.in_hand;
  lifted = ap (λ c. lying c g.place) same ∙ away.lifted;
  size = away.size ∙ sym (ap (λ w. w.size) word);
  within = subst (λ n. g.place < n) (sym (ap length same)) away.within;
}
  where
    owned : IsCounted s.board
    owned = subst IsCounted (sym ready.left.board.state) (run_owned ready.history ready.left.board.run)

    word : word_at mid.board g.place ≡ word_at s.board g.place
    word = ap (λ (b : Board). word_at b g.place) called.adds.after ∙ (others_run s.board acquirer (entries_of caller called.events) owned called.adds.runs (none_own called.events)).1 g.place away.in_hand

pub away_called : (s mid : PlainState) (Kind : List Event → Type 0) (gs : List Given) → IsReady s → AddsOf s.board caller Kind mid.board → mid.contents ≡ s.contents → AreAway s gs → AreAway mid gs
away_called s mid Kind [] ready called same away = away
away_called s mid Kind (g ∷ gs) ready called same away = (away_one s mid Kind g ready called same away.0, away.1, away_called s mid Kind gs ready called same away.2)

pub rest_called : (s mid : PlainState) (m : Window) (Kind : List Event → Type 0) → ((es : List Event) → Kind es → AreQuiet es) → IsAtRest s m → AddsOf s.board caller Kind mid.board → mid.contents ≡ s.contents → IsAtRest mid m
rest_called s mid m Kind quiet rest called same = record {
  ready = quiet_ready s mid caller Kind caller_apart quiet rest.ready called same;
  config = rest.config;
  inputs = rest.inputs;
  stands = rest.stands;
  no_fill = rest.no_fill;
  no_request = rest.no_request;
  unasked = rest.unasked;
  away = away_called s mid Kind (buffers m) rest.ready called same rest.away;
}

none_of : {A : Type 0} (xs : List A) → length xs ≡ 0 → xs ≡ []
none_of [] e = refl
none_of (x ∷ xs) e = absurd (omega (arith, e))

-- a line that doesn't come to the acquisition
pub drives_as : (Line : Trace → Part → Type 0) (k : ℕ) (said : List ℕ) (s new : PlainState) (m : Window) (a : FillCounts) → acquirer ≢ k → Acts Line k 0 s said new → Drives Line 0 s m a said new m a
drives_as Line k said s new m a apart acts_so t behind = record {
  part = acts t k did.events said;
  spells = did.spells;
  runs = did.runs;
  fills = did.fills;
  handles = refl;
  idles = refl;
  text = refl;
  mode = refl;
  told_mode = refl;
  none_taken = others_hand k did.events apart ∙ none_of (handed (entries_of k did.events)) did.taken;
  behind = record { board = did.left; inputs = subst (λ (q : List Input). Stands m q) (sym (append-nil t.inputs)) behind.inputs };
  counted = sym (counted-none a k did.events apart);
}
  where
    did : ActsAs Line k 0 said new t
    did = acts_so t behind.board

-- ---- stop

-- where the trace is in this mode
abbrev pub StopsIn : AcqConfig → Mode → ℕ → Trace → Part → Type 0
StopsIn c mode flags t part = t.mode ≡ mode → StopLine c t flags part

abbrev pub TicksIn : AcqConfig → Mode → ℕ → Trace → Part → Type 0
TicksIn c mode moment t part = t.mode ≡ mode → TickLine c t moment part

-- the same fills, told of the trace
fills_told : (mode told : Mode) (xs : List Retired) (es : List Event) → told ≡ mode → FillsInMode mode xs es → FillsInMode told xs es
fills_told mode told xs es same filled = subst (λ (k : Mode). FillsInMode k xs es) (sym same) filled

pub stop_drives : (mode : Mode) (s mid new : PlainState) (m stopped_at n : Window) (a b : FillCounts) (flags : ℕ) (said : List ℕ) → IsAtRest s m → (called : AddsOf s.board caller (Stops flags (Ok tt)) mid.board) → mid.contents ≡ s.contents
    → Takes m stopped_at stop → FillsAll mode (waiting_fills stopped_at) mid a new b → KeepsBlocks stopped_at n → said ≡ done_text (codes "stop") → Drives (StopsIn (config_of m) mode flags) 0 s m a said new n b
stop_drives mode s mid new m stopped_at n a b flags said rest called same takes all keeps is t behind =
    settles_at mode s mid new m n a b called.events stop (waiting_fills stopped_at) (done_text (codes "stop")) said (StopsIn (config_of m) mode flags) t
    (λ es filled same. (Ok tt, called.events, called.kind, record { events = es; filled = fills_told mode t.mode (retired_by (config_of m) t.inputs stop) es same filled; is = refl }))
    (called_by s mid (Stops flags (Ok tt)) (stop_quiet flags (Ok tt)) called same) all (turned m stopped_at n stop takes keeps rest.no_fill) is behind

pub no_stop_drives : (mode : Mode) (s mid : PlainState) (m : Window) (a : FillCounts) (c : AcqConfig) (flags : ℕ) (error : GcError) (said : List ℕ) → AddsOf s.board caller (Stops flags (Err error)) mid.board → mid.contents ≡ s.contents → said ≡ refused_text (codes "stop") error → Drives (StopsIn c mode flags) 0 s m a said mid m a
no_stop_drives mode s mid m a c flags error said called same is =
    drives_as (StopsIn c mode flags) caller said s mid m a caller_apart
    (quiet_acts s mid caller (Stops flags (Err error)) (StopsIn c mode flags) (refused_text (codes "stop") error) said caller_apart (stop_quiet flags (Err error)) (λ t es kind in_mode. (Err error, es, kind, refl)) called same is)

pub stop_rests : {mode : Mode} {a b : FillCounts} (s mid new : PlainState) (m stopped_at n : Window) (flags : ℕ) → IsAtRest s m → AddsOf s.board caller (Stops flags (Ok tt)) mid.board → mid.contents ≡ s.contents → Takes m stopped_at stop → KeepsBlocks stopped_at n → asked_block stopped_at ≡ None
    → FillsAll mode (waiting_fills stopped_at) mid a new b → waiting_fills n ≡ [] → waiting_requests n ≡ [] → AreAway new (buffers n) → IsAtRest new n
stop_rests s mid new m stopped_at n flags rest called same takes keeps asked all no_fill no_request away =
    rests (waiting_fills stopped_at) mid new m stopped_at n stop (rest_called s mid m (Stops flags (Ok tt)) (stop_quiet flags (Ok tt)) rest called same) takes keeps asked
    (quiet_ready s mid caller (Stops flags (Ok tt)) caller_apart (stop_quiet flags (Ok tt)) rest.ready called same) all no_fill no_request away

-- ---- start

-- a start that is done found the stream not running
pub not_running : (b new : Board) → AddsOf b caller (Starts (Ok tt)) new → b.run ≢ 1
not_running b new called =
    let runs : RunsFrom b (entries_of caller (LookOut called.kind.output false ∷ Start (Ok tt) ∷ [])) = subst (λ (es : List Event). RunsFrom b (entries_of caller es)) called.kind.is called.adds.runs in
    runs.1.0.meets

pub start_drives : (s mid : PlainState) (m n : Window) (a : FillCounts) (said : List ℕ) → IsAtRest s m → (called : AddsOf s.board caller (Starts (Ok tt)) mid.board) → mid.contents ≡ s.contents → Takes m n restart → waiting_fills n ≡ waiting_fills m → said ≡ done_text (codes "start")
    → Drives StartLine 0 s m a said mid n a
start_drives s mid m n a said rest called same takes none is t behind =
    settles_at OldestFirst s mid mid m n a a called.events restart (waiting_fills n) (done_text (codes "start")) said StartLine t
    (λ es filled. (Ok tt, called.events, called.kind, ap (λ fs. tells t called.events restart fs (done_text (codes "start"))) filled))
    (called_by s mid (Starts (Ok tt)) (start_quiet (Ok tt)) called same) (subst (λ (xs : List Retired). FillsAll OldestFirst xs mid a mid a) (sym (none ∙ rest.no_fill)) (fills_none OldestFirst mid a))
    (turned m n n restart takes (keeps_itself n) rest.no_fill) is behind

pub no_start_drives : (s mid : PlainState) (m : Window) (a : FillCounts) (error : GcError) (said : List ℕ) → AddsOf s.board caller (Starts (Err error)) mid.board → mid.contents ≡ s.contents → said ≡ refused_text (codes "start") error → Drives StartLine 0 s m a said mid m a
no_start_drives s mid m a error said called same is =
    drives_as StartLine caller said s mid m a caller_apart
    (quiet_acts s mid caller (Starts (Err error)) StartLine (refused_text (codes "start") error) said caller_apart (start_quiet (Err error)) (λ t es kind. (Err error, es, kind, refl)) called same is)

pub start_rests : (s mid : PlainState) (m n : Window) → IsAtRest s m → AddsOf s.board caller (Starts (Ok tt)) mid.board → mid.contents ≡ s.contents → Takes m n restart → waiting_fills n ≡ waiting_fills m → waiting_requests n ≡ waiting_requests m → buffers n ≡ [] → asked_block n ≡ None → IsAtRest mid n
start_rests s mid m n rest called same takes fills_same requests_same none asked = record {
  ready = quiet_ready s mid caller (Starts (Ok tt)) caller_apart (start_quiet (Ok tt)) rest.ready called same;
  config = subst IsConfig (sym takes.config) rest.config;
  inputs = rest.inputs ++ restart ∷ [];
  stands = takes.stands rest.inputs rest.stands;
  no_fill = fills_same ∙ rest.no_fill;
  no_request = requests_same ∙ rest.no_request;
  unasked = asked;
  away = subst (λ (gs : List Given). AreAway mid gs) (sym none) tt;
}

-- ---- t

lines-are : (rs : List Request) → lines_of (map request_bytes rs) ≡ requests_text rs
lines-are [] = refl
lines-are (r ∷ rs) = ap (λ text. request_line (request_bytes r) ++ text) (lines-are rs)

pub tick_drives : (mode : Mode) (s new : PlainState) (m mid fed n : Window) (a b : FillCounts) (moment : ℕ) (old said : List ℕ) → IsAtRest s m → Takes m mid (tick moment) → FillsAll mode (waiting_fills mid) s a new b → KeepsBlocks mid fed → waiting_requests fed ≡ waiting_requests mid → KeepsBlocks fed n
    → old ≡ [] → said ≡ old ++ lines_of (waiting_requests fed) → Drives (TicksIn (config_of m) mode moment) 0 s m a said new n b
tick_drives mode s new m mid fed n a b moment old said rest takes all keeps same keeps_too empty is t behind =
    settles_at mode s s new m n a b [] (tick moment) (waiting_fills mid) (requests_text (turn (config_of m) t.inputs (tick moment)).requests) said (TicksIn (config_of m) mode moment) t
    (λ es filled same. record { events = es; filled = fills_told mode t.mode (retired_by (config_of m) t.inputs (tick moment)) es same filled; is = refl })
    (none_called s) all (turned m mid n (tick moment) takes (keeps_twice mid fed n keeps keeps_too) rest.no_fill)
    (is ∙ ap (λ w. w ++ lines_of (waiting_requests fed)) empty ∙ ap lines_of (same ∙ takes.requests t.inputs behind.inputs ∙ ap (λ rs. rs ++ map request_bytes (turn (config_of m) t.inputs (tick moment)).requests) rest.no_request)
    ∙ lines-are (turn (config_of m) t.inputs (tick moment)).requests)
    behind
