-- Lines that feed the acquisition do what they mean, and the tape stands for their notes.
use Rattle.std.proofs.Common.{◌≡◌, ◌≢◌, ℕ, ◌+◌, ◌-◌, ◌^◌, Bool, true, false, List, [], ◌∷◌, ◌++◌, length, map, min, max, Result, Ok, Err, OnOk, refl, sym, ap, subst, ◌∙◌, arith, eq-eqb, ne_eqb, append-nil, ◌/◌}
use Rattle.std.specs.Prelude.{◌==◌, IsOk}
use Rattle.std.proofs.lemmas.Bool.{cond-true, cond-false}
use Rattle.hex.specs.Hex.{decode_of, encode_lower, IsBytes}
use Rattle.hex.proofs.HexLemmas.{decode_of-ok, decode_of-encode_lower}
use Rattle.gvsp_std.specs.declared.std_error.StdError.{StdError}
use Rattle.gvsp_std.specs.Widening.{widened}
use Rattle.gev_report.specs.ReplayLines.{request_line}
use Rattle.gev_script.specs.Lines as line
use Rattle.gev_script.specs.Lines.{ScriptLine}
use Rattle.board_machine.specs.declared.events.Entry.{Entry}
use Rattle.board_machine.specs.Machine.{Board}
use Rattle.board_model.specs.Plain.{PlainState}
use Rattle.acquisition_machine.specs.declared.config.AcqConfig.{AcqConfig}
use Rattle.acquisition_machine.specs.Machine.{Input, Request, request_bytes, tick}
use Rattle.acquisition_machine.specs.Runs.{turn}
use Rattle.acquisition_machine.specs.Runs.{After as StateAfter}
use Rattle.acq_core.specs.declared.window.Window.{Window}
use Rattle.acq_core.specs.Receiver.{config_of, Stands}
use Rattle.board_calls.specs.declared.mode.Mode.{Mode}
use Rattle.script_trace.specs.Notes.{idle, unwidened}
use Rattle.script_trace.specs.Inputs.{notes_from}
use Rattle.note_tape.specs.declared.told.Told.{Told}
use Rattle.note_tape.specs.declared.told.Told.TheVariants.{Idle, Unwidened}
use Rattle.note_tape.specs.Telling.{AreNoted}
use Rattle.script_trace.specs.Trace.{Trace, Part, board, grown}
use Rattle.script_trace.specs.Ending.{as_count}
use Rattle.script_trace.specs.Adding.{Spells}
use Rattle.script_trace.specs.StreamLines.{idles, requests_text, StopLine, TickLine, DatagramLine, HearsIfRunning}
use Rattle.script_trace.specs.Wide.{Wide, is_standard_at, is_standard, Meaning, itself, wider, none, meaning_widened, standard_meaning, meaning_decoded, meaning, said_by, DoesAs, standard_form, standard_text}
use Rattle.script_trace.proofs.Meanings.{said_plain}
use Rattle.script_trace.specs.Drops.{drops_in}
use Rattle.script_trace.specs.LineNotes.{length_decoded, idle_notes, part_notes, refused_with, refused_decoded, refused_notes, notes_as}
use Rattle.script_replay.specs.declared.fill_counts.FillCounts.{FillCounts}
use Rattle.script_replay.specs.declared.running.Running.{Running}
use Rattle.script_replay.specs.declared.script.Script.{Script}
use Rattle.script_replay.specs.Boards.{IsLeftBy}
use Rattle.script_replay.specs.Acquiring.{IsAtRest, IsBehindTrace, DrivesAt, Drives}
use Rattle.script_replay.specs.Replays.{StandsAt, IsReplaying, Goes, KeepsWide}
use Rattle.script_replay.proofs.Decoding.{DatagramIn, ok_value}
use Rattle.script_replay.proofs.Widened.{standard_runs}
use Rattle.script_replay.proofs.Replaying.{goes_on, still, drives_with}
use Rattle.explain_lines.specs.Asking.{lines_by}
use Rattle.explain_lines.specs.Hearing.{HearsIn, StopsIn, TellsPart, TicksTold}
use Rattle.explain_lines.specs.Telling.{NotesAt, GoesTold, TellsAt, TellsLine}
use Rattle.explain_lines.proofs.Tapes.{tells_all_of}

-- ---- a part

abbrev driven : Running → PlainState → Window → FillCounts → ℕ → Running
driven old new_board acq counts count = record old { board = new_board; acq = acq; counts = counts; idle = count }

-- a line of this kind, and the tape stands for its notes
abbrev Noted : AcqConfig → ScriptLine → (Trace → Part → Type 0) → List Told → Trace → Part → Type 0
Noted c l Line tape t part = Line t part × AreNoted tape (part_notes c t l part)

pub noted_goes : (l : ScriptLine) (Line : Trace → Part → Type 0) (count : ℕ) (old : Running) (said : List ℕ) (tape : List Told) (new_board : PlainState) (acq : Window) (counts : FillCounts) → IsReplaying old
    → Drives (Noted (config_of old.acq) l Line tape) count old.board old.acq old.counts said new_board acq counts
    → ((t : Trace) (part : Part) → StandsAt old t → Line t part → Spells (config_of old.acq) t l part)
    → IsAtRest new_board acq → config_of acq ≡ config_of old.acq
    → (n : ℕ) → n ≡ min (old.idle + count) (2 ^ 64 - 1) → GoesTold l old said tape (driven old new_board acq counts n)
noted_goes l Line count old said tape new_board acq counts keeps drives spells rest config n is =
    subst (λ k. GoesTold l old said tape (driven old new_board acq counts k)) (sym is) (record {
      adds = adds;
      config = config;
      keeps = let goes : Goes l old said new = goes_on l old said new keeps (λ t stands. (adds t stands).at) config rest refl in goes.keeps;
    })
  where
    new : Running
    new = driven old new_board acq counts (min (old.idle + count) (2 ^ 64 - 1))

    adds : (t : Trace) → StandsAt old t → NotesAt (config_of old.acq) l said tape new t
    adds t stands =
        let both = drives_with l Line (λ u part. AreNoted tape (part_notes (config_of old.acq) u l part)) count old said new_board acq counts t stands (λ part. spells t part stands) (drives t stands.behind) in
        record { at = both.0; noted = both.1 }

-- what a part without idle datagrams tells
part_told : (c : AcqConfig) (l : ScriptLine) (start tape : List Told) (t : Trace) (part : Part) → part.idle ≡ 0 → start ≡ [] → TellsPart c start tape t part → AreNoted tape (part_notes c t l part)
part_told c l start tape t part no_idle empty tells =
    subst (λ k. AreNoted tape (idle_notes l k ++ notes_from c (board t) (drops_in t part) (StateAfter c t.inputs) part.inputs)) (sym no_idle) (tells_all_of start tape _ empty tells)

pub drives_noted : (l : ScriptLine) (Line : Trace → Part → Type 0) (c : AcqConfig) (s new : PlainState) (m n : Window) (a b : FillCounts) (said : List ℕ) (start tape : List Told) → start ≡ []
    → Drives (λ t part. Line t part × TellsPart c start tape t part) 0 s m a said new n b → Drives (Noted c l Line tape) 0 s m a said new n b
drives_noted l Line c s new m n a b said start tape empty drives t behind =
    let did : DrivesAt (λ u part. Line u part × TellsPart c start tape u part) 0 a said new n b t = drives t behind in
    record {
      part = did.part;
      spells = (did.spells.0, part_told c l start tape t did.part did.idles empty did.spells.1);
      runs = did.runs;
      fills = did.fills;
      handles = did.handles;
      idles = did.idles;
      text = did.text;
      mode = did.mode;
      told_mode = did.told_mode;
      none_taken = did.none_taken;
      behind = did.behind;
      counted = did.counted;
    }

-- a line that hangs on the mode of the trace
pub told_goes : (l : ScriptLine) (Line : Trace → Part → Type 0) (old : Running) (said : List ℕ) (start tape : List Told) (new_board : PlainState) (acq : Window) (counts : FillCounts) → IsReplaying old → start ≡ []
    → Drives (λ t part. (t.mode ≡ old.mode → Line t part) × TellsPart (config_of old.acq) start tape t part) 0 old.board old.acq old.counts said new_board acq counts
    → ((t : Trace) (part : Part) → Line t part → Spells (config_of old.acq) t l part)
    → IsAtRest new_board acq → config_of acq ≡ config_of old.acq
    → GoesTold l old said tape (record old { board = new_board; acq = acq; counts = counts })
told_goes l Line old said start tape new_board acq counts keeps empty drives spells rest config =
    noted_goes l (λ t part. t.mode ≡ old.mode → Line t part) 0 old said tape new_board acq counts keeps
    (drives_noted l (λ t part. t.mode ≡ old.mode → Line t part) (config_of old.acq) old.board new_board old.acq acq old.counts counts said start tape empty drives)
    (λ t part stands so. spells t part (so (sym stands.mode))) rest config old.idle (still old.idle keeps.trace.idle keeps.stands.idle)

-- ---- a line of either version

-- it does what it means, and the tape stands for its notes
abbrev DoesTold : AcqConfig → Wide → Trace → ScriptLine → List ℕ → List Told → Wide → Trace → Meaning → Type 0
DoesTold c w t l said tape kept after m = (d : DoesAs c w t l m said kept after) × AreNoted tape (notes_as c w t l m said kept after d)

tells_at : (c : AcqConfig) (w : Wide) (t : Trace) (l : ScriptLine) (said : List ℕ) (tape : List Told) (kept : Wide) (after : Trace) (new : Script) (m : Meaning) → meaning w t l ≡ m → DoesTold c w t l said tape kept after m
    → StandsAt new.running after → KeepsWide new.widening kept → TellsAt c l said tape new w t
tells_at c w t l said tape kept after new m means told stands keeps =
    let both : DoesTold c w t l said tape kept after (meaning w t l) = subst (DoesTold c w t l said tape kept after) (sym means) told in
    record { kept = kept; trace = after; does = both.0; noted = both.1; stands = stands; keeps = keeps }

pub tells_itself : (l : ScriptLine) (old : Script) (text said : List ℕ) (tape : List Told) (new : Running) → GoesTold l old.running text tape new
    → ((w : Wide) (t : Trace) → StandsAt old.running t → KeepsWide old.widening w → meaning w t l ≡ itself)
    → ((w : Wide) (t : Trace) → StandsAt old.running t → KeepsWide old.widening w → (part_text : List ℕ) → text ≡ part_text → said ≡ said_by (config_of old.running.acq) t l w.widened part_text)
    → TellsLine l old said tape (record old { running = new })
tells_itself l old text said tape new goes means says = record {
  does = λ w t stands keeps.
      let at : NotesAt (config_of old.running.acq) l text tape new t = goes.adds t stands in
      tells_at (config_of old.running.acq) w t l said tape w (grown t at.at.part) (record old { running = new }) itself (means w t stands keeps)
      ((record { part = at.at.part; adds = at.at.adds; said = says w t stands keeps at.at.part.text at.at.text; is = refl }, refl), at.noted)
      at.at.stands keeps;
  config = goes.config;
  keeps = goes.keeps;
}

-- ---- stop

stop_means : (w : Wide) (t : Trace) (flags : ℕ) → meaning w t (line.stop flags) ≡ itself
unfolding meaning
stop_means w t flags = refl

pub stop_tells : (flags : ℕ) (old : Script) (said : List ℕ) (start tape : List Told) (new_board : PlainState) (acq : Window) (counts : FillCounts) → IsReplaying old.running → start ≡ []
    → Drives (λ t part. StopsIn (config_of old.running.acq) old.running.mode flags t part × TellsPart (config_of old.running.acq) start tape t part) 0 old.running.board old.running.acq old.running.counts said new_board acq counts
    → IsAtRest new_board acq → config_of acq ≡ config_of old.running.acq
    → TellsLine (line.stop flags) old said tape (record old { running = record old.running { board = new_board; acq = acq; counts = counts } })
stop_tells flags old said start tape new_board acq counts keeps empty drives rest config =
    tells_itself (line.stop flags) old said said tape (record old.running { board = new_board; acq = acq; counts = counts })
    (told_goes (line.stop flags) (λ t part. StopLine (config_of old.running.acq) t flags part) old.running said start tape new_board acq counts keeps empty drives (λ t part spells. spells) rest config)
    (λ w t stands keeps_wide. stop_means w t flags) (λ w t stands keeps_wide text is. is)

-- ---- t

tick_means : (w : Wide) (t : Trace) (moment : ℕ) → meaning w t (line.tick moment) ≡ itself
unfolding meaning
tick_means w t moment = refl

standard_lines : (rs : List Request) → lines_by true (map request_bytes rs) ≡ standard_text rs
standard_lines [] = refl
standard_lines (r ∷ rs) = ap (λ text. request_line (standard_form (request_bytes r)) ++ text) (standard_lines rs)

pub plain_lines : (rs : List Request) → lines_by false (map request_bytes rs) ≡ requests_text rs
plain_lines [] = refl
plain_lines (r ∷ rs) = ap (λ text. request_line (request_bytes r) ++ text) (plain_lines rs)

tick_says : (c : AcqConfig) (t : Trace) (moment : ℕ) (standard : Bool) (said text : List ℕ) (commands : List (List ℕ)) → said ≡ lines_by standard commands → commands ≡ map request_bytes (turn c t.inputs (tick moment)).requests → lines_by false commands ≡ text
    → said ≡ said_by c t (line.tick moment) standard text
tick_says c t moment true said text commands is are plain = is ∙ ap (lines_by true) are ∙ standard_lines (turn c t.inputs (tick moment)).requests
tick_says c t moment false said text commands is are plain = is ∙ plain ∙ sym (said_plain c t (line.tick moment) text)

pub tick_tells : (moment : ℕ) (standard : Bool) (old : Script) (said : List ℕ) (commands : List (List ℕ)) (start tape : List Told) (new_board : PlainState) (acq : Window) (counts : FillCounts) → IsReplaying old.running → start ≡ [] → standard ≡ old.widening.widened
    → Drives (λ t part. (t.mode ≡ old.running.mode → TickLine (config_of old.running.acq) t moment part) × TellsPart (config_of old.running.acq) start tape t part) 0 old.running.board old.running.acq old.running.counts (lines_by false commands) new_board acq counts
    → IsAtRest new_board acq → config_of acq ≡ config_of old.running.acq → said ≡ lines_by standard commands
    → ((t : Trace) → IsBehindTrace t old.running.board old.running.acq → commands ≡ map request_bytes (turn (config_of old.running.acq) t.inputs (tick moment)).requests)
    → TellsLine (line.tick moment) old said tape (record old { running = record old.running { board = new_board; acq = acq; counts = counts } })
tick_tells moment standard old said commands start tape new_board acq counts keeps empty same drives rest config is are =
    tells_itself (line.tick moment) old (lines_by false commands) said tape (record old.running { board = new_board; acq = acq; counts = counts })
    (told_goes (line.tick moment) (λ t part. TickLine (config_of old.running.acq) t moment part) old.running (lines_by false commands) start tape new_board acq counts keeps empty drives (λ t part spells. spells) rest config)
    (λ w t stands keeps_wide. tick_means w t moment)
    (λ w t stands keeps_wide text plain.
    tick_says (config_of old.running.acq) t moment standard said text commands is (are t stands.behind) plain
    ∙ ap (λ b. said_by (config_of old.running.acq) t (line.tick moment) b text) (same ∙ keeps_wide.widened))

-- ---- d

running_noted : (c : AcqConfig) (mode : Mode) (s new : PlainState) (m n : Window) (a b : FillCounts) (digits bytes : List ℕ) (start tape : List Told) → decode_of digits ≡ Ok bytes → s.board.run ≡ 1
    → Drives (λ t part. HearsIn c mode bytes t part × TellsPart c start tape t part) 0 s m a [] new n b
    → Drives (λ t part. (t.mode ≡ mode → DatagramLine c t digits part) × TellsPart c start tape t part) 0 s m a [] new n b
running_noted c mode s new m n a b digits bytes start tape is running drives t behind =
    let heard : DrivesAt (λ u part. HearsIn c mode bytes u part × TellsPart c start tape u part) 0 a [] new n b t = drives t behind in
    let runs_now : ((board t).run == 1) ≡ true = eq-eqb (board t).run 1 (sym (ap (λ (x : Board). x.run) behind.board.board.state) ∙ running) in
    record {
      part = heard.part;
      spells = (λ same. (bytes, is, subst (λ (runs : Bool). HearsIfRunning c t bytes runs heard.part) (sym runs_now) (heard.spells.0 same)), heard.spells.1);
      runs = heard.runs;
      fills = heard.fills;
      handles = heard.handles;
      idles = heard.idles;
      text = heard.text;
      mode = heard.mode;
      told_mode = heard.told_mode;
      none_taken = heard.none_taken;
      behind = heard.behind;
      counted = heard.counted;
    }

pub heard_goes : (old : Running) (digits bytes : List ℕ) (start tape : List Told) (new_board : PlainState) (acq : Window) (counts : FillCounts) → IsReplaying old → start ≡ [] → old.board.board.run ≡ 1 → decode_of digits ≡ Ok bytes
    → Drives (λ t part. HearsIn (config_of old.acq) old.mode bytes t part × TellsPart (config_of old.acq) start tape t part) 0 old.board old.acq old.counts [] new_board acq counts
    → IsAtRest new_board acq → config_of acq ≡ config_of old.acq → GoesTold (line.datagram digits) old [] tape (record old { board = new_board; acq = acq; counts = counts })
heard_goes old digits bytes start tape new_board acq counts keeps empty running is drives rest config =
    told_goes (line.datagram digits) (λ t part. DatagramLine (config_of old.acq) t digits part) old [] start tape new_board acq counts keeps empty
    (running_noted (config_of old.acq) old.mode old.board new_board old.acq acq old.counts counts digits bytes start tape is running drives) (λ t part spells. spells) rest config

-- ---- a datagram that comes while the stream stands still

idle_noted : (c : AcqConfig) (t : Trace) (digits bytes : List ℕ) (tape : List Told) (part : Part) (count : ℕ) → decode_of digits ≡ Ok bytes → length bytes ≡ count → tape ≡ Idle count ∷ [] → part.idle ≡ 1 → part.inputs ≡ [] → AreNoted tape (part_notes c t (line.datagram digits) part)
idle_noted c t digits bytes tape part count is long told one no_input =
    subst (λ l. AreNoted l (part_notes c t (line.datagram digits) part)) (sym told)
    (subst (λ ns. AreNoted (Idle count ∷ []) ns) (sym notes) (refl, tt))
  where
    notes : part_notes c t (line.datagram digits) part ≡ idle count ∷ []
    notes =
        ap (λ k. idle_notes (line.datagram digits) k ++ notes_from c (board t) (drops_in t part) (StateAfter c t.inputs) part.inputs) one
        ∙ ap (λ q. (idle (length_decoded (decode_of digits)) ∷ []) ++ notes_from c (board t) (drops_in t part) (StateAfter c t.inputs) q) no_input
        ∙ ap (λ r. idle (length_decoded r) ∷ []) is
        ∙ ap (λ k. idle k ∷ []) long

idle_drives : (c : AcqConfig) (mode : Mode) (s : PlainState) (m : Window) (a : FillCounts) (digits bytes : List ℕ) (tape : List Told) (count : ℕ) → decode_of digits ≡ Ok bytes → length bytes ≡ count → tape ≡ Idle count ∷ [] → s.board.run ≢ 1
    → Drives (Noted c (line.datagram digits) (DatagramIn c mode digits) tape) 1 s m a [] s m a
idle_drives c mode s m a digits bytes tape count is long told stands_still t behind = record {
  part = idles t;
  spells = (
    λ same. (bytes, is, subst (λ (runs : Bool). HearsIfRunning c t bytes runs (idles t)) (sym still_stands) refl),
    idle_noted c t digits bytes tape (idles t) count is long told refl refl,
  );
  runs = tt;
  fills = tt;
  handles = refl;
  idles = refl;
  text = refl;
  mode = refl;
  told_mode = refl;
  none_taken = refl;
  behind = record {
    board = subst (λ (h : List Entry). IsLeftBy s h) (sym (append-nil t.entries)) behind.board;
    inputs = subst (λ (q : List Input). Stands m q) (sym (append-nil t.inputs)) behind.inputs;
  };
  counted = refl;
}
  where
    still_stands : ((board t).run == 1) ≡ false
    still_stands = ne_eqb (board t).run 1 (λ e. stands_still (ap (λ (b : Board). b.run) behind.board.board.state ∙ e))

pub idle_goes : (old : Running) (digits bytes : List ℕ) (tape : List Told) (count n : ℕ) → IsReplaying old → old.board.board.run ≢ 1 → decode_of digits ≡ Ok bytes → length bytes ≡ count → tape ≡ Idle count ∷ [] → n ≡ min (old.idle + 1) (2 ^ 64 - 1)
    → GoesTold (line.datagram digits) old [] tape (record old { idle = n })
idle_goes old digits bytes tape count n keeps stands_still is long told counted =
    noted_goes (line.datagram digits) (DatagramIn (config_of old.acq) old.mode digits) 1 old [] tape old.board old.acq old.counts keeps
    (idle_drives (config_of old.acq) old.mode old.board old.acq old.counts digits bytes tape count is long told stands_still)
    (λ t part stands so. so (sym stands.mode)) keeps.rest refl n counted

-- ---- a datagram of either version

-- the test by what is kept is the test by what the code has
same_test : (old : Script) (w : Wide) (t : Trace) (bytes : List ℕ) → StandsAt old.running t → KeepsWide old.widening w
    → is_standard w t bytes ≡ is_standard_at old.widening.version old.running.board.board.run old.widening.widener bytes
same_test old w t bytes stands keeps =
    ap (λ v. is_standard_at v (board t).run w.top bytes) (sym keeps.version)
    ∙ ap (λ run. is_standard_at old.widening.version run w.top bytes) (sym (ap (λ (b : Board). b.run) stands.behind.board.board.state))
    ∙ ap (λ top. is_standard_at old.widening.version old.running.board.board.run top bytes) (sym keeps.top)

-- none is widened while the stream stands still
pub not_standing : (version run top : ℕ) (bytes : List ℕ) → run ≢ 1 → is_standard_at version run top bytes ≡ false
not_standing version run top bytes other = go (is_standard_at version run top bytes) refl
  where
    go : (b : Bool) → is_standard_at version run top bytes ≡ b → is_standard_at version run top bytes ≡ false
    go true e = absurd (other (standard_runs version run top bytes e))
    go false e = e

means_itself : (w : Wide) (t : Trace) (digits bytes : List ℕ) → decode_of digits ≡ Ok bytes → is_standard w t bytes ≡ false → meaning w t (line.datagram digits) ≡ itself
unfolding meaning
means_itself w t digits bytes is other = ap (meaning_decoded w t) is ∙ cond-false (is_standard w t bytes) (standard_meaning w.top bytes) itself other

means_widened : (w : Wide) (t : Trace) (digits bytes : List ℕ) (answer : Result (ℕ × List ℕ) StdError) → decode_of digits ≡ Ok bytes → is_standard w t bytes ≡ true → widened w.top bytes ≡ answer → meaning w t (line.datagram digits) ≡ meaning_widened answer
unfolding meaning standard_meaning
means_widened w t digits bytes answer is standard widens =
    ap (meaning_decoded w t) is ∙ cond-true (is_standard w t bytes) (standard_meaning w.top bytes) itself standard ∙ ap meaning_widened widens

pub plain_tells : (digits bytes : List ℕ) (old : Script) (tape : List Told) (new : Running) → decode_of digits ≡ Ok bytes → is_standard_at old.widening.version old.running.board.board.run old.widening.widener bytes ≡ false
    → GoesTold (line.datagram digits) old.running [] tape new → TellsLine (line.datagram digits) old [] tape (record old { running = new })
plain_tells digits bytes old tape new is other goes =
    tells_itself (line.datagram digits) old [] [] tape new goes
    (λ w t stands keeps. means_itself w t digits bytes is (same_test old w t bytes stands keeps ∙ other)) (λ w t stands keeps text same. same)

-- it was widened
pub widened_tells : (digits bytes : List ℕ) (old : Script) (tape : List Told) (new : Running) (top block : ℕ) (wide : List ℕ) → decode_of digits ≡ Ok bytes → is_standard_at old.widening.version old.running.board.board.run old.widening.widener bytes ≡ true
    → widened old.widening.widener bytes ≡ Ok (block, wide) → top ≡ max old.widening.widener block → GoesTold (line.datagram (encode_lower wide)) old.running [] tape new
    → TellsLine (line.datagram digits) old [] tape (record { running = new; widening = record old.widening { widener = top; widened = true } })
widened_tells digits bytes old tape new top block wide is standard widens top_is goes = record {
  does = λ w t stands keeps.
      let at : NotesAt (config_of old.running.acq) (line.datagram (encode_lower wide)) [] tape new t = goes.adds t stands in
      let kept : Wide = record w { top = max w.top block; widened = true } in
      tells_at (config_of old.running.acq) w t (line.datagram digits) [] tape kept (grown t at.at.part) (record { running = new; widening = record old.widening { widener = top; widened = true } }) (wider block wide)
      (means_widened w t digits bytes (Ok (block, wide)) is (same_test old w t bytes stands keeps ∙ standard) (ap (λ n. widened n bytes) (sym keeps.top) ∙ widens))
      ((record { part = at.at.part; adds = at.at.adds; said = at.at.text; is = refl }, refl), at.noted)
      at.at.stands
      (record {
        version = keeps.version;
        top = top_is ∙ ap (λ n. max n block) keeps.top;
        widened = refl;
        refused = keeps.refused;
      });
  config = goes.config;
  keeps = goes.keeps;
}

one_more : (n m : ℕ) → n ≡ as_count m → min (n + 1) (2 ^ 64 - 1) ≡ as_count (m + 1)
one_more n m e = omega (arith, e)

-- or refused
pub refused_tells : (digits bytes : List ℕ) (old : Script) (tape : List Told) (e : StdError) (n : ℕ) → IsReplaying old.running → decode_of digits ≡ Ok bytes → is_standard_at old.widening.version old.running.board.board.run old.widening.widener bytes ≡ true
    → widened old.widening.widener bytes ≡ Err e → n ≡ min (old.widening.refused + 1) (2 ^ 64 - 1) → tape ≡ Unwidened e ∷ []
    → TellsLine (line.datagram digits) old [] tape (record old { widening = record old.widening { refused = n } })
refused_tells digits bytes old tape e n replaying is standard refuses counted told = record {
  does = λ w t stands keeps.
      let refused_here : widened w.top bytes ≡ Err e = ap (λ k. widened k bytes) (sym keeps.top) ∙ refuses in
      let notes : refused_notes w (line.datagram digits) ≡ unwidened e ∷ [] = ap (refused_decoded w.top) is ∙ ap refused_with refused_here in
      tells_at (config_of old.running.acq) w t (line.datagram digits) [] tape (record w { refused = w.refused + 1 }) t (record old { widening = record old.widening { refused = n } }) none
      (means_widened w t digits bytes (Err e) is (same_test old w t bytes stands keeps ∙ standard) refused_here)
      ((refl, refl, refl), subst (λ l. AreNoted l (refused_notes w (line.datagram digits))) (sym told) (subst (λ ns. AreNoted (Unwidened e ∷ []) ns) (sym notes) (refl, tt)))
      stands
      (record {
        version = keeps.version;
        top = keeps.top;
        widened = keeps.widened;
        refused = counted ∙ one_more old.widening.refused w.refused keeps.refused;
      });
  config = refl;
  keeps = replaying;
}

-- how many bytes the digits spell
pub spelled_length : (digits bytes : List ℕ) → decode_of digits ≡ Ok bytes → length bytes ≡ length digits / 2
spelled_length digits bytes is = let ok = decode_of-ok digits bytes is in let twice = ok.2 in omega (arith, twice)

-- ---- where there was memory

pub stop_tells_ok : {A E : Type 0} (r : Result A E) (flags : ℕ) (old : Script) (said : List ℕ) (start tape : List Told) (new_board : PlainState) (acq : Window) (counts : FillCounts) → IsReplaying old.running → start ≡ []
    → OnOk r (Drives (λ t part. StopsIn (config_of old.running.acq) old.running.mode flags t part × TellsPart (config_of old.running.acq) start tape t part) 0 old.running.board old.running.acq old.running.counts said new_board acq counts)
    → OnOk r (IsAtRest new_board acq) → OnOk r (config_of acq ≡ config_of old.running.acq)
    → OnOk r (TellsLine (line.stop flags) old said tape (record old { running = record old.running { board = new_board; acq = acq; counts = counts } }))
stop_tells_ok (Ok v) flags old said start tape new_board acq counts keeps empty drives rest config = stop_tells flags old said start tape new_board acq counts keeps empty drives rest config
stop_tells_ok (Err e) flags old said start tape new_board acq counts keeps empty drives rest config = tt

pub tick_tells_ok : {A E : Type 0} (r : Result A E) (moment : ℕ) (standard : Bool) (old : Script) (said : List ℕ) (start tape : List Told) (new_board : PlainState) (acq : Window) (counts : FillCounts) → IsReplaying old.running → start ≡ [] → standard ≡ old.widening.widened
    → OnOk r (TicksTold old.running.mode moment standard old.running.board old.running.acq old.running.counts start said new_board acq counts tape) → OnOk r (IsAtRest new_board acq)
    → OnOk r (TellsLine (line.tick moment) old said tape (record old { running = record old.running { board = new_board; acq = acq; counts = counts } }))
tick_tells_ok (Ok v) moment standard old said start tape new_board acq counts keeps empty same told rest =
    tick_tells moment standard old said told.commands start tape new_board acq counts keeps empty same told.drives rest told.config told.said_is told.are
tick_tells_ok (Err e) moment standard old said start tape new_board acq counts keeps empty same told rest = tt

pub heard_goes_ok : {A E : Type 0} (r : Result A E) (old : Running) (bytes : List ℕ) (start tape : List Told) (new_board : PlainState) (acq : Window) (counts : FillCounts) → IsReplaying old → start ≡ [] → old.board.board.run ≡ 1
    → OnOk r (Drives (λ t part. HearsIn (config_of old.acq) old.mode bytes t part × TellsPart (config_of old.acq) start tape t part) 0 old.board old.acq old.counts [] new_board acq counts)
    → OnOk r (IsAtRest new_board acq) → OnOk r (config_of acq ≡ config_of old.acq)
    → OnOk r ((digits : List ℕ) → decode_of digits ≡ Ok bytes → GoesTold (line.datagram digits) old [] tape (record old { board = new_board; acq = acq; counts = counts }))
heard_goes_ok (Ok v) old bytes start tape new_board acq counts keeps empty running drives rest config = λ digits is.
    heard_goes old digits bytes start tape new_board acq counts keeps empty running is drives rest config
heard_goes_ok (Err e) old bytes start tape new_board acq counts keeps empty running drives rest config = tt

pub heard_wide_ok : {A E : Type 0} (r : Result A E) (old : Running) (bytes : List ℕ) (start tape : List Told) (new_board : PlainState) (acq : Window) (counts : FillCounts) → IsReplaying old → start ≡ [] → old.board.board.run ≡ 1 → IsBytes bytes
    → OnOk r (Drives (λ t part. HearsIn (config_of old.acq) old.mode bytes t part × TellsPart (config_of old.acq) start tape t part) 0 old.board old.acq old.counts [] new_board acq counts)
    → OnOk r (IsAtRest new_board acq) → OnOk r (config_of acq ≡ config_of old.acq)
    → OnOk r (GoesTold (line.datagram (encode_lower bytes)) old [] tape (record old { board = new_board; acq = acq; counts = counts }))
heard_wide_ok (Ok v) old bytes start tape new_board acq counts keeps empty running small drives rest config =
    heard_goes old (encode_lower bytes) bytes start tape new_board acq counts keeps empty running (decode_of-encode_lower bytes small) drives rest config
heard_wide_ok (Err e) old bytes start tape new_board acq counts keeps empty running small drives rest config = tt

pub idle_line_ok : {A E : Type 0} (r : Result A E) (digits : List ℕ) (old : Script) (tape : List Told) (new : Running) (count : ℕ) → IsOk (decode_of digits) → old.running.board.board.run ≢ 1 → length digits / 2 ≡ count
    → OnOk r ((ds spelled : List ℕ) → decode_of ds ≡ Ok spelled → length spelled ≡ count → GoesTold (line.datagram ds) old.running [] tape new) → OnOk r (TellsLine (line.datagram digits) old [] tape (record old { running = new }))
idle_line_ok (Ok v) digits old tape new count spelled stands_still half goes =
    let is : (bytes : List ℕ) × (decode_of digits ≡ Ok bytes) = ok_value (decode_of digits) spelled in
    plain_tells digits is.0 old tape new is.1 (not_standing old.widening.version old.running.board.board.run old.widening.widener is.0 stands_still) (goes digits is.0 is.1 (spelled_length digits is.0 is.1 ∙ half))
idle_line_ok (Err e) digits old tape new count spelled stands_still half goes = tt
