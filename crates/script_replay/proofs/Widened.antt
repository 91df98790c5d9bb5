-- Lines of both versions do what they mean.
use Rattle.std.proofs.Common.{◌≡◌, ◌≢◌, ℕ, ◌+◌, ◌-◌, ◌^◌, Bool, true, false, List, [], ◌∷◌, ◌++◌, length, take, map, min, max, Result, Ok, Err, refl, sym, ap, subst, ◌∙◌, arith, nat_eq}
use Rattle.std.specs.Prelude.{if◌then◌else◌}
use Rattle.std.proofs.lemmas.List.{take_at}
use Rattle.std.proofs.lemmas.Bool.{cond-true, cond-false, and_parts, eqb-true, ne_eqb}
use Rattle.hex.specs.declared.error.FromHexError.{FromHexError}
use Rattle.hex.specs.Hex.{decode_of, encode_lower, IsBytes}
use Rattle.hex.proofs.HexLemmas.{decode_of-encode_lower}
use Rattle.gvsp_std.specs.declared.std_error.StdError.{StdError}
use Rattle.gvsp_std.specs.Widening.{widened}
use Rattle.gvsp_std.specs.Asking.{std_resend_fields}
use Rattle.gvcp_wire.specs.declared.resend.Resend.{Resend}
use Rattle.wire_fields.specs.Fields.{number_at, spelled}
use Rattle.gev_report.specs.ReplayLines.{request_line}
use Rattle.gev_script.specs.Lines as line
use Rattle.gev_script.specs.Lines.{ScriptLine}
use Rattle.board_machine.specs.Machine.{Board}
use Rattle.board_model.specs.Plain.{PlainState}
use Rattle.acquisition_machine.specs.declared.config.AcqConfig.{AcqConfig}
use Rattle.acquisition_machine.specs.Machine.{Request, request_bytes, tick}
use Rattle.acquisition_machine.specs.Runs.{turn}
use Rattle.acq_core.specs.declared.window.Window.{Window}
use Rattle.acq_core.specs.Receiver.{config_of, Takes, KeepsBlocks}
use Rattle.acq_core.specs.Waiting.{waiting_fills, waiting_requests}
use Rattle.script_trace.specs.Trace.{Trace, board, grown}
use Rattle.script_trace.specs.Ending.{as_count}
use Rattle.script_trace.specs.Wide.{Wide, is_standard_at, is_standard, itself, meaning_widened, standard_meaning, meaning_of_bytes, meaning_decoded, meaning, said_by, DoesAs, standard_form, standard_text, is_started_at, kept_behind, is_narrow, asked_in}
use Rattle.script_trace.proofs.Meanings.{said_plain}
use Rattle.script_replay.specs.declared.fill_counts.FillCounts.{FillCounts}
use Rattle.script_replay.specs.declared.running.Running.{Running}
use Rattle.script_replay.specs.declared.script.Script.{Script}
use Rattle.script_replay.specs.declared.widening.Widening.{Widening}
use Rattle.script_replay.specs.Acquiring.{IsAtRest, FillsAll, Drives, lines_of}
use Rattle.script_replay.specs.Replays.{StandsAt, IsReplaying, AddsAt, Goes, IsOther, KeepsWide, DoesAt, DoesLine, DoneLine}
use Rattle.script_replay.specs.Widely.{standard_lines_of, DoesBytesAt, DoesBytes}
use Rattle.script_replay.proofs.Claiming.{HearsIn}
use Rattle.script_replay.proofs.Decoding.{running_drives}
use Rattle.script_replay.proofs.Driving.{tick_drives}
use Rattle.script_replay.proofs.Replaying.{drive_goes}

-- ---- lines that mean themselves

pub does_itself : (l : ScriptLine) (old : Script) (said : List ℕ) (new : Running) → Goes l old.running said new
    → ((w : Wide) (t : Trace) → StandsAt old.running t → KeepsWide old.widening w → meaning w t l ≡ itself)
    → ((w : Wide) (t : Trace) (text : List ℕ) → KeepsWide old.widening w → said_by (config_of old.running.acq) t l w.widened text ≡ text)
    → DoesLine l old said (record old { running = new })
does_itself l old said new goes means says = record {
  does = λ w t stands keeps.
      let at : AddsAt (config_of old.running.acq) l said new t = goes.adds t stands in
      record {
        kept = w;
        trace = grown t at.part;
        does = subst (λ m. DoesAs (config_of old.running.acq) w t l m said w (grown t at.part)) (sym (means w t stands keeps))
            (record { part = at.part; adds = at.adds; said = at.text ∙ sym (says w t at.part.text keeps); is = refl }, refl);
        stands = at.stands;
        keeps = keeps;
      };
  config = goes.config;
  keeps = goes.keeps;
}

other_means : (w : Wide) (t : Trace) (l : ScriptLine) → IsOther l → meaning w t l ≡ itself
unfolding meaning
other_means w t (line.datagram digits) other = absurd other
other_means w t _ other = refl

other_says : (c : AcqConfig) (t : Trace) (l : ScriptLine) (widened : Bool) (text : List ℕ) → IsOther l → said_by c t l widened text ≡ text
other_says c t (line.tick moment) widened text other = absurd other
other_says c t _ widened text other = refl

pub other_does : (l : ScriptLine) (old : Script) (said : List ℕ) (new : Running) → IsOther l → Goes l old.running said new → DoesLine l old said (record old { running = new })
other_does l old said new other goes =
    does_itself l old said new goes (λ w t stands keeps. other_means w t l other) (λ w t text keeps. other_says (config_of old.running.acq) t l w.widened text other)

pub plain_tick : (moment : ℕ) (old : Script) (said : List ℕ) (new : Running) → old.widening.widened ≡ false → Goes (line.tick moment) old.running said new → DoesLine (line.tick moment) old said (record old { running = new })
unfolding meaning
plain_tick moment old said new plain goes =
    does_itself (line.tick moment) old said new goes (λ w t stands keeps. refl)
    (λ w t text keeps.
    ap (λ b. said_by (config_of old.running.acq) t (line.tick moment) b text) (sym keeps.widened ∙ plain) ∙ said_plain (config_of old.running.acq) t (line.tick moment) text)

-- ---- datagrams

not_second : (version run top : ℕ) (bytes : List ℕ) → version ≢ 2 → is_standard_at version run top bytes ≡ false
not_second version run top bytes other = go (nat_eq version 2) (ne_eqb version 2 other)
  where
    go : (b : Bool) → b ≡ false → is_standard_at version run top bytes ≡ false
    go b e = grind (arith, e, other)

-- the test by what is kept is the test by what the code has
same_test : (old : Script) (w : Wide) (t : Trace) (bytes : List ℕ) → StandsAt old.running t → KeepsWide old.widening w
    → is_standard w t bytes ≡ is_standard_at old.widening.version old.running.board.board.run old.widening.widener bytes
same_test old w t bytes stands keeps =
    ap (λ v. is_standard_at v (board t).run w.top bytes) (sym keeps.version)
    ∙ ap (λ run. is_standard_at old.widening.version run w.top bytes) (sym (ap (λ (b : Board). b.run) stands.behind.board.board.state))
    ∙ ap (λ top. is_standard_at old.widening.version old.running.board.board.run top bytes) (sym keeps.top)

bytes_itself : (w : Wide) (t : Trace) (bytes : List ℕ) → is_standard w t bytes ≡ false → meaning_of_bytes w t bytes ≡ itself
bytes_itself w t bytes other = cond-false (is_standard w t bytes) (standard_meaning w.top bytes) itself other

decoded_first : (w : Wide) (t : Trace) (r : Result (List ℕ) FromHexError) → w.version ≢ 2 → meaning_decoded w t r ≡ itself
decoded_first w t (Ok bytes) other = bytes_itself w t bytes (not_second w.version (board t).run w.top bytes other)
decoded_first w t (Err e) other = refl

pub first_version : (digits : List ℕ) (old : Script) (new : Running) → old.widening.version ≢ 2 → Goes (line.datagram digits) old.running [] new → DoesLine (line.datagram digits) old [] (record old { running = new })
unfolding meaning
first_version digits old new other goes =
    does_itself (line.datagram digits) old [] new goes (λ w t stands keeps. decoded_first w t (decode_of digits) (λ e. other (keeps.version ∙ e))) (λ w t text keeps. refl)

pub not_standard : (digits bytes : List ℕ) (old : Script) (new : Running) → decode_of digits ≡ Ok bytes
    → is_standard_at old.widening.version old.running.board.board.run old.widening.widener bytes ≡ false
    → Goes (line.datagram digits) old.running [] new → DoesLine (line.datagram digits) old [] (record old { running = new })
unfolding meaning
not_standard digits bytes old new is other goes =
    does_itself (line.datagram digits) old [] new goes
    (λ w t stands keeps. ap (meaning_decoded w t) is ∙ bytes_itself w t bytes (same_test old w t bytes stands keeps ∙ other))
    (λ w t text keeps. refl)

-- a datagram with a standard header does what its bytes do
pub bytes_do : (digits bytes : List ℕ) (old new : Script) → decode_of digits ≡ Ok bytes
    → is_standard_at old.widening.version old.running.board.board.run old.widening.widener bytes ≡ true
    → DoesBytes (line.datagram digits) bytes old new → DoesLine (line.datagram digits) old [] new
unfolding meaning
bytes_do digits bytes old new is standard deed = record {
  does = λ w t stands keeps.
      let at : DoesBytesAt (config_of old.running.acq) (line.datagram digits) bytes new w t = deed.does w t stands keeps in
      let means : meaning w t (line.datagram digits) ≡ standard_meaning w.top bytes
      = ap (meaning_decoded w t) is ∙ cond-true (is_standard w t bytes) (standard_meaning w.top bytes) itself (same_test old w t bytes stands keeps ∙ standard) in
      record {
        kept = at.kept;
        trace = at.trace;
        does = subst (λ m. DoesAs (config_of old.running.acq) w t (line.datagram digits) m [] at.kept at.trace) (sym means) at.does;
        stands = at.stands;
        keeps = at.keeps;
      };
  config = deed.config;
  keeps = deed.keeps;
}

-- the stream runs where a datagram is widened
pub standard_runs : (version run top : ℕ) (bytes : List ℕ) → is_standard_at version run top bytes ≡ true → run ≡ 1
standard_runs version run top bytes h = eqb-true run 1 (and_parts _ _ (and_parts _ _ (and_parts _ _ (and_parts _ _ h).0).0).0).1

-- it was widened
abbrev with_block : Script → Running → ℕ → Script
with_block old new top = record { running = new; widening = record old.widening { widener = top; widened = true } }

pub widened_does : (l : ScriptLine) (bytes : List ℕ) (old : Script) (new : Running) (top block : ℕ) (wide : List ℕ) → widened old.widening.widener bytes ≡ Ok (block, wide)
    → top ≡ max old.widening.widener block → Goes (line.datagram (encode_lower wide)) old.running [] new → DoesBytes l bytes old (with_block old new top)
unfolding standard_meaning
widened_does l bytes old new top block wide is top_is goes = record {
  does = λ w t stands keeps.
      let at : AddsAt (config_of old.running.acq) (line.datagram (encode_lower wide)) [] new t = goes.adds t stands in
      let kept : Wide = record w { top = max w.top block; widened = true } in
      let is_here : widened w.top bytes ≡ Ok (block, wide) = ap (λ n. widened n bytes) (sym keeps.top) ∙ is in
      record {
        kept = kept;
        trace = grown t at.part;
        does = subst (λ r. DoesAs (config_of old.running.acq) w t l (meaning_widened r) [] kept (grown t at.part)) (sym is_here)
            (record { part = at.part; adds = at.adds; said = at.text; is = refl }, refl);
        stands = at.stands;
        keeps = record {
          version = keeps.version;
          top = top_is ∙ ap (λ n. max n block) keeps.top;
          widened = refl;
          refused = keeps.refused;
        };
      };
  config = goes.config;
  keeps = goes.keeps;
}

-- or refused
abbrev with_refused : Script → ℕ → Script
with_refused old n = record old { widening = record old.widening { refused = n } }

one_more : (n m : ℕ) → n ≡ as_count m → min (n + 1) (2 ^ 64 - 1) ≡ as_count (m + 1)
one_more n m e = omega (arith, e)

pub refused_does : (l : ScriptLine) (bytes : List ℕ) (old : Script) (e : StdError) (n : ℕ) → widened old.widening.widener bytes ≡ Err e → n ≡ min (old.widening.refused + 1) (2 ^ 64 - 1) → IsReplaying old.running
    → DoesBytes l bytes old (with_refused old n)
unfolding standard_meaning
refused_does l bytes old e n is counted replaying = record {
  does = λ w t stands keeps.
      let kept : Wide = record w { refused = w.refused + 1 } in
      let is_here : widened w.top bytes ≡ Err e = ap (λ k. widened k bytes) (sym keeps.top) ∙ is in
      record {
        kept = kept;
        trace = t;
        does = subst (λ r. DoesAs (config_of old.running.acq) w t l (meaning_widened r) [] kept t) (sym is_here) (refl, refl, refl);
        stands = stands;
        keeps = record {
          version = keeps.version;
          top = keeps.top;
          widened = keeps.widened;
          refused = counted ∙ one_more old.widening.refused w.refused keeps.refused;
        };
      };
  config = refl;
  keeps = replaying;
}

-- ---- bytes that are heard

pub heard_goes : (old : Running) (bytes : List ℕ) (new_board : PlainState) (acq : Window) (counts : FillCounts) → IsReplaying old → old.board.board.run ≡ 1 → IsBytes bytes
    → Drives (HearsIn (config_of old.acq) old.mode bytes) 0 old.board old.acq old.counts [] new_board acq counts
    → IsAtRest new_board acq → config_of acq ≡ config_of old.acq → Goes (line.datagram (encode_lower bytes)) old [] (record old { board = new_board; acq = acq; counts = counts })
heard_goes old bytes new_board acq counts keeps runs small drives rest config =
    drive_goes (line.datagram (encode_lower bytes)) old [] new_board acq counts keeps
    (running_drives (config_of old.acq) old.mode old.board new_board old.acq acq old.counts counts (encode_lower bytes) bytes (decode_of-encode_lower bytes small) runs drives) rest config

-- ---- a moment, with requests in the standard form

standard_lines-are : (rs : List Request) → standard_lines_of (map request_bytes rs) ≡ standard_text rs
standard_lines-are [] = refl
standard_lines-are (r ∷ rs) = ap (λ text. request_line (standard_form (request_bytes r)) ++ text) (standard_lines-are rs)

abbrev driven : Running → PlainState → Window → FillCounts → Running
driven old new_board acq counts = record old { board = new_board; acq = acq; counts = counts }

pub standard_tick : (moment : ℕ) (old : Script) (new_board : PlainState) (mid fed acq : Window) (counts : FillCounts) (before said : List ℕ) → IsReplaying old.running → old.widening.widened ≡ true
    → Takes old.running.acq mid (tick moment) → FillsAll old.running.mode (waiting_fills mid) old.running.board old.running.counts new_board counts → KeepsBlocks mid fed → waiting_requests fed ≡ waiting_requests mid → KeepsBlocks fed acq
    → IsAtRest new_board acq → before ≡ [] → said ≡ before ++ standard_lines_of (waiting_requests fed)
    → DoesLine (line.tick moment) old said (record old { running = driven old.running new_board acq counts })
unfolding meaning
standard_tick moment old new_board mid fed acq counts before said replaying widened takes all keeps same keeps_too rest empty is = record {
  does = λ w t stands wide.
      let at : AddsAt c (line.tick moment) (lines_of (waiting_requests fed)) new t = goes.adds t stands in
      record {
        kept = w;
        trace = grown t at.part;
        does = (
          record {
            part = at.part;
            adds = at.adds;
            said = told t stands ∙ ap (λ b. said_by c t (line.tick moment) b at.part.text) (sym widened ∙ wide.widened);
            is = refl;
          },
          refl,
        );
        stands = at.stands;
        keeps = wide;
      };
  config = goes.config;
  keeps = goes.keeps;
}
  where
    c : AcqConfig
    c = config_of old.running.acq

    new : Running
    new = driven old.running new_board acq counts

    goes : Goes (line.tick moment) old.running (lines_of (waiting_requests fed)) new
    goes =
        drive_goes (line.tick moment) old.running (lines_of (waiting_requests fed)) new_board acq counts replaying
        (tick_drives old.running.mode old.running.board new_board old.running.acq mid fed acq old.running.counts counts moment [] (lines_of (waiting_requests fed)) replaying.rest takes all keeps same keeps_too refl refl)
        rest (keeps_too.config ∙ (keeps.config ∙ takes.config))

    told : (t : Trace) → StandsAt old.running t → said ≡ standard_text (turn c t.inputs (tick moment)).requests
    told t stands =
        is ∙ ap (λ l. l ++ standard_lines_of (waiting_requests fed)) empty
        ∙ ap standard_lines_of (same ∙ takes.requests t.inputs stands.behind.inputs ∙ ap (λ rs. rs ++ map request_bytes (turn c t.inputs (tick moment)).requests) replaying.rest.no_request)
        ∙ standard_lines-are (turn c t.inputs (tick moment)).requests

-- ---- a start is noted

abbrev noted : Bool → Widening → Widening
noted started s = if started then record s { widener = 0 } else s

noted_keeps : (started : Bool) (s : Widening) (w : Wide) → KeepsWide s w → KeepsWide (noted started s) (record w { top = if started then 0 else w.top })
noted_keeps true s w keeps = record { version = keeps.version; top = refl; widened = keeps.widened; refused = keeps.refused }
noted_keeps false s w keeps = keeps

pub line_done : (l : ScriptLine) (old mid : Script) (said : List ℕ) (before after : ℕ) → DoesLine l old said mid → before ≡ old.running.board.board.run → after ≡ mid.running.board.board.run
    → DoneLine l old said (record mid { widening = noted (is_started_at before after) mid.widening })
line_done l old mid said before after deed was is = record {
  does = λ w t stands keeps.
      let at : DoesAt (config_of old.running.acq) l said mid w t = deed.does w t stands keeps in
      let first : before ≡ (board t).run = was ∙ ap (λ (b : Board). b.run) stands.behind.board.board.state in
      let second : after ≡ (board at.trace).run = is ∙ ap (λ (b : Board). b.run) at.stands.behind.board.board.state in
      let same : is_started_at before after ≡ is_started_at (board t).run (board at.trace).run
      = ap (λ n. is_started_at n after) first ∙ ap (λ n. is_started_at (board t).run n) second in
      record {
        kept = at.kept;
        trace = at.trace;
        does = at.does;
        stands = at.stands;
        keeps = subst (λ b. KeepsWide (noted b mid.widening) (kept_behind at.kept t at.trace)) (sym same) (noted_keeps (is_started_at (board t).run (board at.trace).run) mid.widening at.kept at.keeps);
      };
  config = deed.config;
  keeps = deed.keeps;
}

-- ---- what the code has tested

pub moved_test : (version run run_here top top_here : ℕ) (bytes : List ℕ) (b : Bool) → run_here ≡ run → top_here ≡ top → b ≡ is_standard_at version run_here top_here bytes → is_standard_at version run top bytes ≡ b
moved_test version run run_here top top_here bytes b same_run same_top is =
    sym (is ∙ ap (λ n. is_standard_at version n top_here bytes) same_run ∙ ap (λ n. is_standard_at version run n bytes) same_top)

-- what was written is what stands in front
pub front_is : (out wide rest : List ℕ) (len : ℕ) → out ≡ wide ++ rest → len ≡ length wide → take len out ≡ wide
front_is out wide rest len is size = ap (take len) is ∙ take_at wide rest len (sym size)

-- a request whose ids don't fit, and one whose ids do
pub form_stays : (bytes : List ℕ) (resend : Resend) → resend ≡ asked_in bytes → is_narrow resend ≡ false → standard_form bytes ≡ bytes
unfolding standard_form
form_stays bytes resend is wide = cond-false (is_narrow (asked_in bytes)) (spelled (std_resend_fields (number_at 6 2 bytes) (asked_in bytes))) bytes (ap is_narrow (sym is) ∙ wide)

pub form_narrow : (bytes : List ℕ) (resend : Resend) (req : ℕ) → resend ≡ asked_in bytes → is_narrow resend ≡ true → req ≡ number_at 6 2 bytes → standard_form bytes ≡ spelled (std_resend_fields req resend)
unfolding standard_form
form_narrow bytes resend req is narrow same =
    cond-true (is_narrow (asked_in bytes)) (spelled (std_resend_fields (number_at 6 2 bytes) (asked_in bytes))) bytes (ap is_narrow (sym is) ∙ narrow)
    ∙ ap (λ (a : Resend). spelled (std_resend_fields (number_at 6 2 bytes) a)) (sym is)
    ∙ ap (λ n. spelled (std_resend_fields n resend)) (sym same)
