-- A line adds its part to the trace that what a script runs on stands behind.
use Rattle.std.proofs.Common.{◌≡◌, ◌≢◌, ℕ, ◌+◌, ◌-◌, ◌^◌, ◌==◌, min, Bool, true, false, codes, eq-eqb, ne_eqb, List, [], ◌∷◌, ◌++◌, length, refl, sym, ap, subst, ◌∙◌, arith, append-nil, Option, Result, Ok, Err, OnOk}
use Rattle.std.specs.Prelude.{⊤}
use Rattle.std.specs.List.{count_by}
use Rattle.gev_script.specs.Lines as line
use Rattle.gev_script.specs.Lines.{ScriptLine}
use Rattle.gentl_handles.specs.Handles.{Handles}
use Rattle.gentl_handles.specs.Opening.{opening as opening_under, with_opened}
use Rattle.gentl_handles.specs.Closing.{closing, without_closed}
use Rattle.board_machine.specs.declared.events.Entry.{Entry}
use Rattle.board_machine.specs.declared.events.Event.{Event}
use Rattle.board_machine.specs.Machine.{Item, Board}
use Rattle.board_machine.specs.Adding.{entries_of}
use Rattle.board_machine.specs.Handout.{handed}
use Rattle.gentl_types.specs.declared.errors.GcError.TheVariants.{ResourceInUse}
use Rattle.gentl_types.specs.declared.errors.Shown.TheVariants.{Word}
use Rattle.board_calls.specs.Calls.{run_word}
use Rattle.board_calls.specs.declared.mode.Mode.{Mode}
use Rattle.script_trace.specs.Modes.{mode_of, handed_out, dropped}
use Rattle.script_trace.specs.Answers.{refused_text, done_text}
use Rattle.script_trace.specs.StreamLines.{StartLine, sets_mode, ModeIfRunning}
use Rattle.board_model.specs.Plain.{PlainState}
use Rattle.acquisition_machine.specs.declared.config.AcqConfig.{AcqConfig}
use Rattle.acquisition_machine.specs.Machine.{Input}
use Rattle.acq_core.specs.declared.window.Window.{Window}
use Rattle.acq_core.specs.Receiver.{config_of, open_count, Stands}
use Rattle.acq_core.proofs.Receiving.{receivers_show}
use Rattle.script_trace.specs.Trace.{Trace, Part, board, caller, acquirer, acts, only_says, grown}
use Rattle.script_trace.specs.Ending.{as_count}
use Rattle.script_trace.specs.Adding.{Spells, AddsPart, Leads}
use Rattle.script_trace.specs.Opening.{opening}
use Rattle.script_trace.specs.HandleLines.{handles_are, opened_text, left_open}
use Rattle.script_trace.proofs.Between.{traces_rest}
use Rattle.script_replay.specs.declared.fill_counts.FillCounts.{FillCounts}
use Rattle.script_replay.specs.declared.running.Running.{Running}
use Rattle.script_replay.specs.Boards.{IsLeftBy, IsReady, ActsAs, Acts}
use Rattle.script_replay.specs.Takes.{ActsUnder}
use Rattle.script_replay.specs.Closes.{ClosesAs, ClosesUnder}
use Rattle.script_replay.specs.Acquiring.{IsAtRest, KeepsLifted, DrivesAt, Drives}
use Rattle.script_replay.specs.Counting.{counted_on, counted_in, blocks_in}
use Rattle.script_replay.specs.Replays.{StandsAt, IsReplaying, AddsAt, Goes}
use Rattle.script_replay.proofs.Counted.{blocks_grow, counts_follow, taken_counts, others_hand, counted-none, drops_follow, same_fills, same_complete, still_dropped}
use Rattle.script_replay.proofs.Lines.{caller_apart}
use Rattle.script_replay.proofs.Resting.{rest_by}

-- ---- lines lead on

-- one more line behind others
pub leads_on : (c : AcqConfig) (t : Trace) (lines : List ScriptLine) (u : Trace) (l : ScriptLine) (part : Part) → Leads c t lines u → AddsPart c u l part → Leads c t (lines ++ l ∷ []) (grown u part)
leads_on c t [] u l part is adds = (part, subst (λ (v : Trace). AddsPart c v l part) is adds, ap (λ (v : Trace). grown v part) is)
leads_on c t (k ∷ lines) u l part (first, added, rest) adds = (first, added, leads_on c (grown t first) lines u l part rest adds)

-- The line was run, where its part is known behind each trace.
pub goes_on : (l : ScriptLine) (old : Running) (said : List ℕ) (new : Running) → IsReplaying old
    → ((t : Trace) → StandsAt old t → AddsAt (config_of old.acq) l said new t)
    → config_of new.acq ≡ config_of old.acq → IsAtRest new.board new.acq → new.stream.serial ≡ old.stream.serial → Goes l old said new
goes_on l old said new keeps adds config rest same =
    let one : AddsAt (config_of old.acq) l said new keeps.trace = adds keeps.trace keeps.stands in
    record {
      adds = adds;
      config = config;
      keeps = record {
        rest = rest;
        stream = same ∙ keeps.stream;
        trace = grown keeps.trace one.part;
        lines = keeps.lines ++ l ∷ [];
        leads = subst (λ (c : AcqConfig). Leads c opening (keeps.lines ++ l ∷ []) (grown keeps.trace one.part)) (sym config) (leads_on (config_of old.acq) opening keeps.lines keeps.trace l one.part keeps.leads one.adds);
        stands = one.stands;
      };
    }

-- ---- counts

abbrev complete_in : List Item → ℕ
complete_in xs = count_by (λ x. x.filling.rec.complete) xs

-- a count stands where it stood, where nothing more is counted
pub still : (n m : ℕ) → n ≡ as_count m → n ≡ min (n + 0) (2 ^ 64 - 1)
still n m e = omega (arith, e)

more : (n m k : ℕ) → n ≡ as_count m → min (n + k) (2 ^ 64 - 1) ≡ as_count (m + k)
more n m k e = omega (arith, e)

-- what was handed out is counted on
taken_on : (n count : ℕ) (h es : List Entry) → n ≡ as_count (length (handed_out h)) → length (handed_out es) ≡ count → min (n + count) (2 ^ 64 - 1) ≡ as_count (length (handed_out (h ++ es)))
taken_on n count h es was taken =
    ap (λ k. min (n + k) (2 ^ 64 - 1)) (sym taken) ∙ more n (length (handed_out h)) (length (handed_out es)) was
    ∙ ap as_count (sym (taken_counts _ h es))

-- another actor's takes hand out
others_taken : (k count : ℕ) (es : List Event) → acquirer ≢ k → length (handed (entries_of k es)) ≡ count → length (handed_out (entries_of k es)) ≡ count
others_taken k count es apart taken = ap length (others_hand k es apart) ∙ taken

-- what was filled and dropped is counted on
record FilledOn (b : FillCounts) (h : List Entry) : Type 0 where
  fills : b.fills ≡ as_count (length (blocks_in h))
  complete : b.complete ≡ as_count (complete_in (blocks_in h))
  dropped_is : b.dropped ≡ as_count (length (dropped h))

counted_so : (r : Running) (t : Trace) → StandsAt r t → FilledOn r.counts t.entries
counted_so r t stands = record { fills = stands.fills; complete = stands.complete; dropped_is = stands.dropped }

filled_on : (a b : FillCounts) (h es : List Entry) → FilledOn a h → b ≡ counted_in a es → FilledOn b (h ++ es)
filled_on a b h es was counted =
    let on = counts_follow a (blocks_in h) (blocks_in es) was.fills was.complete in
    let n : ℕ = length (dropped es) in
    let c : FillCounts = counted_on a (blocks_in es) in
    record {
      fills = ap (λ (x : FillCounts). x.fills) counted ∙ (same_fills c n ∙ (on.0 ∙ ap (λ xs. as_count (length xs)) (sym (blocks_grow h es))));
      complete = ap (λ (x : FillCounts). x.complete) counted ∙ (same_complete c n ∙ (on.1 ∙ ap (λ xs. as_count (complete_in xs)) (sym (blocks_grow h es))));
      dropped_is =
          ap (λ (x : FillCounts). x.dropped) counted
          ∙ (drops_follow c (length (dropped h)) n (still_dropped a (blocks_in es) ∙ was.dropped_is) ∙ ap as_count (sym (taken_counts _ h es)));
    }

-- another actor fills and drops nothing for the acquisition
filled_still : (a : FillCounts) (h : List Entry) (k : ℕ) (es : List Event) → acquirer ≢ k → FilledOn a h → FilledOn a (h ++ entries_of k es)
filled_still a h k es apart was = filled_on a a h (entries_of k es) was (sym (counted-none a k es apart))

-- ---- lines of acts

abbrev with_acts : Running → PlainState → ℕ → Running
with_acts old board taken = record old { board = board; taken = taken }

acts_stand : (old : Running) (board : PlainState) (k count : ℕ) (events : List Event) (said : List ℕ) (t : Trace) → acquirer ≢ k → StandsAt old t
    → IsLeftBy board (t.entries ++ entries_of k events) → length (handed (entries_of k events)) ≡ count
    → StandsAt (with_acts old board (min (old.taken + count) (2 ^ 64 - 1))) (grown t (acts t k events said))
acts_stand old board k count events said t apart stands left taken =
    let filled = filled_still old.counts t.entries k events apart (counted_so old t stands) in
    record {
      behind = record { board = left; inputs = subst (λ (q : List Input). Stands old.acq q) (sym (append-nil t.inputs)) stands.behind.inputs };
      handles = stands.handles;
      fills = filled.fills;
      complete = filled.complete;
      dropped = filled.dropped_is;
      taken = taken_on old.taken count t.entries (entries_of k events) stands.taken (others_taken k count events apart taken);
      idle = stands.idle ∙ ap as_count (omega arith);
      mode = stands.mode;
      told_mode = stands.told_mode;
    }

acts_add : (l : ScriptLine) (Line : Trace → Part → Type 0) (k count : ℕ) (old : Running) (said : List ℕ) (board : PlainState) (t : Trace) → acquirer ≢ k → StandsAt old t
    → ((part : Part) → Line t part → Spells (config_of old.acq) t l part) → ActsAs Line k count said board t
    → AddsAt (config_of old.acq) l said (with_acts old board (min (old.taken + count) (2 ^ 64 - 1))) t
acts_add l Line k count old said board t apart stands spells did = record {
  part = acts t k did.events said;
  adds = record { spells = spells (acts t k did.events said) did.spells; runs = did.runs; fills = did.fills };
  text = refl;
  stands = acts_stand old board k count did.events said t apart stands did.left did.taken;
}

-- A line whose part hangs on the open handles.
pub under_goes : (l : ScriptLine) (Line : Trace → Part → Type 0) (k count : ℕ) (old : Running) (said : List ℕ) (board : PlainState) → acquirer ≢ k → IsReplaying old
    → ActsUnder old.tree Line k count old.board said board → IsReady board → KeepsLifted old.board board
    → ((t : Trace) (part : Part) → Line t part → Spells (config_of old.acq) t l part)
    → (n : ℕ) → n ≡ min (old.taken + count) (2 ^ 64 - 1) → Goes l old said (with_acts old board n)
under_goes l Line k count old said board apart keeps under ready lifted spells n is =
    subst (λ m. Goes l old said (with_acts old board m)) (sym is) (goes_on l old said (with_acts old board (min (old.taken + count) (2 ^ 64 - 1))) keeps
    (λ t stands. acts_add l Line k count old said board t apart stands (spells t) (under t (sym stands.handles) stands.behind.board))
    refl rest refl)
  where
    did : ActsAs Line k count said board keeps.trace
    did = under keeps.trace (sym keeps.stands.handles) keeps.stands.behind.board

    rest : IsAtRest board old.acq
    rest = rest_by k did.events old.board board old.acq keeps.trace apart keeps.stands.behind.board did.runs did.left ready lifted keeps.rest

-- A line whose part hangs on the history alone.
pub acts_go : (l : ScriptLine) (Line : Trace → Part → Type 0) (k count : ℕ) (old : Running) (said : List ℕ) (board : PlainState) → acquirer ≢ k → IsReplaying old
    → Acts Line k count old.board said board → IsReady board → KeepsLifted old.board board
    → ((t : Trace) (part : Part) → Line t part → Spells (config_of old.acq) t l part)
    → (n : ℕ) → n ≡ min (old.taken + count) (2 ^ 64 - 1) → Goes l old said (with_acts old board n)
acts_go l Line k count old said board apart keeps acts_so = under_goes l Line k count old said board apart keeps (λ t handles left. acts_so t left)

-- A line that hands out nothing.
pub call_goes : (l : ScriptLine) (old : Running) (said : List ℕ) (board : PlainState) → IsReplaying old
    → Acts (λ t. Spells (config_of old.acq) t l) caller 0 old.board said board → IsReady board → KeepsLifted old.board board
    → Goes l old said (record old { board = board })
call_goes l old said board keeps acts_so ready lifted =
    acts_go l (λ t. Spells (config_of old.acq) t l) caller 0 old said board caller_apart keeps acts_so ready lifted (λ t part spells. spells)
    old.taken (still old.taken (length (handed_out keeps.trace.entries)) keeps.stands.taken)

-- ---- lines that drive the acquisition

abbrev driven : Running → PlainState → Window → FillCounts → ℕ → Running
driven old board acq counts idle = record old { board = board; acq = acq; counts = counts; idle = idle }

-- with what else is known of its part
pub drives_with : (l : ScriptLine) (Line Also : Trace → Part → Type 0) (idle : ℕ) (old : Running) (said : List ℕ) (new_board : PlainState) (acq : Window) (counts : FillCounts) (t : Trace) → StandsAt old t
    → ((part : Part) → Line t part → Spells (config_of old.acq) t l part) → DrivesAt (λ u part. Line u part × Also u part) idle old.counts said new_board acq counts t
    → (at : AddsAt (config_of old.acq) l said (driven old new_board acq counts (min (old.idle + idle) (2 ^ 64 - 1))) t) × Also t at.part
drives_with l Line Also idle old said new_board acq counts t stands spells did =
    let filled = filled_on old.counts counts t.entries did.part.entries (counted_so old t stands) did.counted in (
      record {
        part = did.part;
        adds = record { spells = spells did.part did.spells.0; runs = did.runs; fills = did.fills };
        text = sym did.text;
        stands = record {
          behind = did.behind;
          handles = stands.handles ∙ sym did.handles;
          fills = filled.fills;
          complete = filled.complete;
          dropped = filled.dropped_is;
          taken = still old.taken (length (handed_out t.entries)) stands.taken ∙ taken_on old.taken 0 t.entries did.part.entries stands.taken (ap length did.none_taken);
          idle = ap (λ k. min (old.idle + k) (2 ^ 64 - 1)) (sym did.idles) ∙ more old.idle t.idle did.part.idle stands.idle;
          mode = stands.mode ∙ sym did.mode;
          told_mode = stands.told_mode ∙ sym did.told_mode;
        };
      },
      did.spells.1,
    )

drives_also : (Line : Trace → Part → Type 0) (idle : ℕ) (a : FillCounts) (said : List ℕ) (new : PlainState) (n : Window) (b : FillCounts) (t : Trace) → DrivesAt Line idle a said new n b t → DrivesAt (λ u part. Line u part × ⊤) idle a said new n b t
drives_also Line idle a said new n b t did = record {
  part = did.part;
  spells = (did.spells, tt);
  runs = did.runs;
  fills = did.fills;
  handles = did.handles;
  idles = did.idles;
  text = did.text;
  mode = did.mode;
  told_mode = did.told_mode;
  none_taken = did.none_taken;
  behind = did.behind;
  counted = did.counted;
}

drives_add : (l : ScriptLine) (Line : Trace → Part → Type 0) (idle : ℕ) (old : Running) (said : List ℕ) (new_board : PlainState) (acq : Window) (counts : FillCounts) (t : Trace) → StandsAt old t
    → ((part : Part) → Line t part → Spells (config_of old.acq) t l part) → DrivesAt Line idle old.counts said new_board acq counts t
    → AddsAt (config_of old.acq) l said (driven old new_board acq counts (min (old.idle + idle) (2 ^ 64 - 1))) t
drives_add l Line idle old said new_board acq counts t stands spells did =
    (drives_with l Line (λ u part. ⊤) idle old said new_board acq counts t stands spells (drives_also Line idle old.counts said new_board acq counts t did)).0

pub drives_go : (l : ScriptLine) (Line : Trace → Part → Type 0) (idle : ℕ) (old : Running) (said : List ℕ) (new_board : PlainState) (acq : Window) (counts : FillCounts) → IsReplaying old
    → Drives Line idle old.board old.acq old.counts said new_board acq counts
    → ((t : Trace) (part : Part) → StandsAt old t → Line t part → Spells (config_of old.acq) t l part)
    → IsAtRest new_board acq → config_of acq ≡ config_of old.acq
    → (n : ℕ) → n ≡ min (old.idle + idle) (2 ^ 64 - 1) → Goes l old said (driven old new_board acq counts n)
drives_go l Line idle old said new_board acq counts keeps drives spells rest config n is =
    subst (λ m. Goes l old said (driven old new_board acq counts m)) (sym is) (goes_on l old said (driven old new_board acq counts (min (old.idle + idle) (2 ^ 64 - 1))) keeps
    (λ t stands. drives_add l Line idle old said new_board acq counts t stands (λ part. spells t part stands) (drives t stands.behind))
    config rest refl)

-- A line that isn't a datagram, and hangs on the mode of the trace.
pub drive_goes : (l : ScriptLine) (old : Running) (said : List ℕ) (new_board : PlainState) (acq : Window) (counts : FillCounts) → IsReplaying old
    → Drives (λ t part. t.mode ≡ old.mode → Spells (config_of old.acq) t l part) 0 old.board old.acq old.counts said new_board acq counts
    → IsAtRest new_board acq → config_of acq ≡ config_of old.acq
    → Goes l old said (record old { board = new_board; acq = acq; counts = counts })
drive_goes l old said new_board acq counts keeps drives rest config =
    drives_go l (λ t part. t.mode ≡ old.mode → Spells (config_of old.acq) t l part) 0 old said new_board acq counts keeps drives
    (λ t part stands spells. spells (sym stands.mode)) rest config old.idle (still old.idle keeps.trace.idle keeps.stands.idle)

-- A start.
pub start_goes : (old : Running) (said : List ℕ) (new_board : PlainState) (acq : Window) → IsReplaying old
    → Drives StartLine 0 old.board old.acq old.counts said new_board acq old.counts
    → IsAtRest new_board acq → config_of acq ≡ config_of old.acq
    → Goes line.start old said (record old { board = new_board; acq = acq })
start_goes old said new_board acq keeps drives rest config =
    drives_go line.start StartLine 0 old said new_board acq old.counts keeps drives (λ t part stands spells. spells) rest config
    old.idle (still old.idle keeps.trace.idle keeps.stands.idle)

-- ---- mode

-- The mode is set.
abbrev with_mode : Running → Mode → Running
with_mode old mode = record old { mode = mode; told_mode = true }

-- the stream isn't running, or is, as the code found
not_running : (old : Running) (t : Trace) → StandsAt old t → old.board.board.run ≢ 1 → ((board t).run == 1) ≡ false
not_running old t stands stopped = ne_eqb (board t).run 1 (λ e. stopped (ap (λ (b : Board). b.run) stands.behind.board.board.state ∙ e))

is_running : (old : Running) (t : Trace) → StandsAt old t → old.board.board.run ≡ 1 → ((board t).run == 1) ≡ true
is_running old t stands running = eq-eqb (board t).run 1 (sym (ap (λ (b : Board). b.run) stands.behind.board.board.state) ∙ running)

-- a part without entries and inputs
silent_stands : (old : Running) (mode : Mode) (told : Bool) (said : List ℕ) (t : Trace) → StandsAt old t
    → StandsAt (record old { mode = mode; told_mode = told }) (grown t (record { entries = []; inputs = []; handles = t.handles; idle = 0; text = said; mode = mode; told_mode = told }))
silent_stands old mode told said t stands = record {
  behind = record {
    board = subst (λ (h : List Entry). IsLeftBy old.board h) (sym (append-nil t.entries)) stands.behind.board;
    inputs = subst (λ (q : List Input). Stands old.acq q) (sym (append-nil t.inputs)) stands.behind.inputs;
  };
  handles = stands.handles;
  fills = stands.fills ∙ ap (λ h. as_count (length (blocks_in h))) (sym (append-nil t.entries));
  complete = stands.complete ∙ ap (λ h. as_count (complete_in (blocks_in h))) (sym (append-nil t.entries));
  dropped = stands.dropped ∙ ap (λ h. as_count (length (dropped h))) (sym (append-nil t.entries));
  taken = stands.taken ∙ ap (λ h. as_count (length (handed_out h))) (sym (append-nil t.entries));
  idle = stands.idle ∙ ap as_count (omega arith);
  mode = refl;
  told_mode = refl;
}

mode_add : (n : ℕ) (old : Running) (said : List ℕ) (t : Trace) → old.board.board.run ≢ 1 → said ≡ done_text (codes "mode") → StandsAt old t
    → AddsAt (config_of old.acq) (line.mode n) said (with_mode old (mode_of n)) t
mode_add n old said t stopped is stands = record {
  part = sets_mode t (mode_of n);
  adds = record { spells = subst (λ (b : Bool). ModeIfRunning t n b (sets_mode t (mode_of n))) (sym (not_running old t stands stopped)) refl; runs = tt; fills = tt };
  text = is;
  stands = silent_stands old (mode_of n) true (done_text (codes "mode")) t stands;
}

pub mode_goes : (n : ℕ) (old : Running) (said : List ℕ) (mode : Mode) → IsReplaying old → old.board.board.run ≢ 1 → mode ≡ mode_of n → said ≡ done_text (codes "mode")
    → Goes (line.mode n) old said (with_mode old mode)
mode_goes n old said mode keeps stopped same is =
    subst (λ (m : Mode). Goes (line.mode n) old said (with_mode old m)) (sym same)
    (goes_on (line.mode n) old said (with_mode old (mode_of n)) keeps (λ t stands. mode_add n old said t stopped is stands) refl keeps.rest refl)

no_mode_add : (n run : ℕ) (old : Running) (said : List ℕ) (t : Trace) → old.board.board.run ≡ 1 → said ≡ refused_text (codes "mode") (ResourceInUse (Word (run_word run))) → StandsAt old t
    → AddsAt (config_of old.acq) (line.mode n) said old t
no_mode_add n run old said t running is stands = record {
  part = only_says t (refused_text (codes "mode") (ResourceInUse (Word (run_word (board t).run))));
  adds = record { spells = subst (λ (b : Bool). ModeIfRunning t n b (only_says t (refused_text (codes "mode") (ResourceInUse (Word (run_word (board t).run)))))) (sym (is_running old t stands running)) refl; runs = tt; fills = tt };
  text = is;
  stands =
      subst (λ (r : Running). StandsAt r (grown t (only_says t (refused_text (codes "mode") (ResourceInUse (Word (run_word (board t).run)))))))
      (ap (λ m. record old { mode = m; told_mode = t.told_mode }) (sym stands.mode) ∙ ap (λ b. record old { told_mode = b }) (sym stands.told_mode))
      (silent_stands old t.mode t.told_mode (refused_text (codes "mode") (ResourceInUse (Word (run_word (board t).run)))) t stands);
}

-- It isn't, where the stream is running.
pub no_mode_goes : (n run : ℕ) (old : Running) (said : List ℕ) → IsReplaying old → old.board.board.run ≡ 1 → said ≡ refused_text (codes "mode") (ResourceInUse (Word (run_word run)))
    → Goes (line.mode n) old said old
no_mode_goes n run old said keeps running is =
    goes_on (line.mode n) old said old keeps (λ t stands. no_mode_add n run old said t running is stands) refl keeps.rest refl

-- where the stream isn't running no block is open
pub none_open : (r : Running) → IsReplaying r → r.board.board.run ≢ 1 → open_count r.acq ≡ 0
none_open r keeps stopped =
    (receivers_show r.acq keeps.trace.inputs keeps.stands.behind.inputs).opens
    ∙ ap length ((traces_rest (config_of r.acq) keeps.lines keeps.trace keeps.rest.config.window_some keeps.leads).none_open
    (λ e. stopped (ap (λ (b : Board). b.run) keeps.stands.behind.board.board.state ∙ e)))

-- two facts of one answer
pub on_ok_two : {A E : Type 0} {P Q R : Type 0} (r : Result A E) → (P → Q → R) → OnOk r P → OnOk r Q → OnOk r R
on_ok_two (Ok x) f p q = f p q
on_ok_two (Err e) f p q = tt

-- ---- handles

abbrev with_tree : Running → PlainState → Handles → Running
with_tree old board tree = record old { board = board; tree = tree }

-- acts of the lines' caller, after which these handles are open
handles_stand : (old : Running) (new_board : PlainState) (tree : Handles) (events : List Event) (said : List ℕ) (t : Trace) → StandsAt old t
    → IsLeftBy new_board (t.entries ++ entries_of caller events) → length (handed (entries_of caller events)) ≡ 0
    → StandsAt (with_tree old new_board tree) (grown t (handles_are t events tree said))
handles_stand old new_board tree events said t stands left taken =
    let filled = filled_still old.counts t.entries caller events caller_apart (counted_so old t stands) in
    record {
      behind = record { board = left; inputs = subst (λ (q : List Input). Stands old.acq q) (sym (append-nil t.inputs)) stands.behind.inputs };
      handles = refl;
      fills = filled.fills;
      complete = filled.complete;
      dropped = filled.dropped_is;
      taken = still old.taken (length (handed_out t.entries)) stands.taken ∙ taken_on old.taken 0 t.entries (entries_of caller events) stands.taken (others_taken caller 0 events caller_apart taken);
      idle = stands.idle ∙ ap as_count (omega arith);
      mode = stands.mode;
      told_mode = stands.told_mode;
    }

close_add : (serial : ℕ) (old : Running) (said : List ℕ) (new_board : PlainState) (t : Trace) → StandsAt old t → ClosesAs serial said new_board t
    → AddsAt (config_of old.acq) (line.close_all serial) said (with_tree old new_board (left_open t serial)) t
close_add serial old said new_board t stands did = record {
  part = handles_are t did.events (left_open t serial) said;
  adds = record { spells = did.spells; runs = did.runs; fills = did.fills };
  text = refl;
  stands = handles_stand old new_board (left_open t serial) did.events said t stands did.left did.taken;
}

pub close_goes : (serial : ℕ) (old : Running) (said : List ℕ) (new_board : PlainState) (tree : Handles) → IsReplaying old
    → ClosesUnder old.tree serial old.board said new_board → tree ≡ without_closed old.tree serial (closing old.tree serial)
    → IsReady new_board → KeepsLifted old.board new_board → Goes (line.close_all serial) old said (with_tree old new_board tree)
close_goes serial old said new_board tree keeps closes is ready lifted =
    goes_on (line.close_all serial) old said (with_tree old new_board tree) keeps
    (λ t stands. subst (λ (hs : Handles). AddsAt (config_of old.acq) (line.close_all serial) said (with_tree old new_board hs) t)
    (sym (is ∙ ap (λ (hs : Handles). without_closed hs serial (closing hs serial)) stands.handles))
    (close_add serial old said new_board t stands (closes t (sym stands.handles) stands.behind.board)))
    refl rest refl
  where
    did : ClosesAs serial said new_board keeps.trace
    did = closes keeps.trace (sym keeps.stands.handles) keeps.stands.behind.board

    rest : IsAtRest new_board old.acq
    rest = rest_by caller did.events old.board new_board old.acq keeps.trace caller_apart keeps.stands.behind.board did.runs did.left ready lifted keeps.rest

open_add : (parent : Option ℕ) (index : ℕ) (old : Running) (t : Trace) → StandsAt old t
    → AddsAt (config_of old.acq) (line.open_child parent index) (opened_text (opening_under t.handles parent index)) (with_tree old old.board (with_opened t.handles (opening_under t.handles parent index))) t
open_add parent index old t stands = record {
  part = handles_are t [] (with_opened t.handles (opening_under t.handles parent index)) (opened_text (opening_under t.handles parent index));
  adds = record { spells = refl; runs = tt; fills = tt };
  text = refl;
  stands = handles_stand old old.board (with_opened t.handles (opening_under t.handles parent index)) [] (opened_text (opening_under t.handles parent index)) t stands
      (subst (λ (h : List Entry). IsLeftBy old.board h) (sym (append-nil t.entries)) stands.behind.board) refl;
}

pub open_goes : (parent : Option ℕ) (index : ℕ) (old : Running) (said : List ℕ) (tree : Handles) → IsReplaying old
    → said ≡ opened_text (opening_under old.tree parent index) → tree ≡ with_opened old.tree (opening_under old.tree parent index)
    → Goes (line.open_child parent index) old said (record old { tree = tree })
open_goes parent index old said tree keeps told is =
    goes_on (line.open_child parent index) old said (record old { tree = tree }) keeps
    (λ t stands. adds t stands
    (told ∙ ap (λ (hs : Handles). opened_text (opening_under hs parent index)) stands.handles)
    (is ∙ ap (λ (hs : Handles). with_opened hs (opening_under hs parent index)) stands.handles))
    refl keeps.rest refl
  where
    adds : (t : Trace) → StandsAt old t → said ≡ opened_text (opening_under t.handles parent index) → tree ≡ with_opened t.handles (opening_under t.handles parent index)
        → AddsAt (config_of old.acq) (line.open_child parent index) said (record old { tree = tree }) t
    adds t stands told_so is_so =
        subst (λ text. AddsAt (config_of old.acq) (line.open_child parent index) text (with_tree old old.board tree) t) (sym told_so)
        (subst (λ (hs : Handles). AddsAt (config_of old.acq) (line.open_child parent index) (opened_text (opening_under t.handles parent index)) (with_tree old old.board hs) t) (sym is_so)
        (open_add parent index old t stands))
