-- A narrowed script leads to the trace of the script that was narrowed.
use Rattle.std.proofs.Common.{◌≡◌, ◌≢◌, ℕ, ◌≤◌, ◌==◌, ◌^◌, max, true, false, Bool, List, [], ◌∷◌, ◌++◌, length, slice_index, nat_lt, Ok, refl, sym, ap, subst, ◌∙◌, append_assoc, append-nil}
use Rattle.std.proofs.lemmas.Bool.{cond-true, cond-false, and_from, and_parts, eq-eqb, eqb-true, ne_eqb, le-leb, le-ltb, not_from_false}
use Rattle.std.specs.List.{AllByRecursion}
use Rattle.hex.specs.Hex.{decode_of, encode_lower}
use Rattle.stream_packets.specs.Packets.{StreamPacket, head_of}
use Rattle.gvsp_wire.specs.Plain.{plain}
use Rattle.gvsp_wire.specs.Reading.{is_extended}
use Rattle.gvsp_std.specs.Narrowed.{std_plain, MayNarrow}
use Rattle.gvsp_std.specs.Widening.{widened}
use Rattle.gvsp_std.proofs.OnePacket.{IsTaken, taken}
use Rattle.gvsp_std.proofs.Spelled.{narrowed_widened}
use Rattle.gev_script.specs.Lines as line
use Rattle.gev_script.specs.Lines.{ScriptLine}
use Rattle.acquisition_machine.specs.declared.config.AcqConfig.{AcqConfig}
use Rattle.script_trace.specs.Trace.{Trace, Part, board, grown}
use Rattle.acquisition_machine.specs.Machine.{tick}
use Rattle.acquisition_machine.specs.Runs.{turn}
use Rattle.script_trace.specs.StreamLines.{TickLine, HearsIfRunning, DatagramLine}
use Rattle.script_trace.specs.Adding.{Spells, AddsPart, Leads}
use Rattle.script_trace.specs.Wide.{Wide, is_standard_at, is_standard, itself, wider, meaning_widened, standard_meaning, meaning_decoded, meaning, standard_text, said_by, DoesAs, Does, kept_behind}
use Rattle.script_trace.proofs.Feeds.{AreLines}
use Rattle.script_trace.proofs.Said.{line_says}
use Rattle.script_trace.specs.Narrowing.{LeadsWide, Narrows, stays, packet, idle, NarrowsAll, IsNoMoment, RunAlike}
use Rattle.script_trace.proofs.Requests.{Alike, alike_none, alike_same, alike_both, requests_alike, alike_others}

-- ---- one datagram

first_of_list : {A : Type 0} (x y : A) (xs ys : List A) → x ∷ xs ≡ y ∷ ys → x ≡ y
first_of_list x y xs ys e = cc

one_widened : (top : ℕ) (x : StreamPacket) → MayNarrow top (x ∷ []) → widened top (std_plain x) ≡ Ok ((head_of x).block, plain x)
one_widened top x may = first_of_list _ _ [] [] (narrowed_widened top (x ∷ []) may)

test_holds : (version run top : ℕ) (bytes : List ℕ) → version ≡ 2 → run ≡ 1 → top ≤ 2 ^ 63 → 8 ≤ length bytes → is_extended (slice_index bytes 4) ≡ false → is_standard_at version run top bytes ≡ true
test_holds version run top bytes second runs few long standard =
    and_from _ _
    (and_from _ _ (and_from _ _ (and_from _ _ (eq-eqb version 2 second) (eq-eqb run 1 runs)) (le-leb top (2 ^ 63) few)) (not_from_false (nat_lt (length bytes) 8) (le-ltb (length bytes) 8 long)))
    (not_from_false (is_extended (slice_index bytes 4)) standard)

packet_means : (w : Wide) (t : Trace) (x : StreamPacket) (digits : List ℕ) → w.version ≡ 2 → (board t).run ≡ 1 → w.top ≤ 2 ^ 63 → MayNarrow w.top (x ∷ []) → decode_of digits ≡ Ok (std_plain x)
    → meaning w t (line.datagram digits) ≡ wider (head_of x).block (plain x)
unfolding meaning standard_meaning
packet_means w t x digits second runs few may spelled =
    let is : widened w.top (std_plain x) ≡ Ok ((head_of x).block, plain x) = one_widened w.top x may in
    let there : IsTaken w.top (std_plain x) (head_of x).block (plain x) = taken w.top (std_plain x) (head_of x).block (plain x) is in
    ap (meaning_decoded w t) spelled
    ∙ cond-true (is_standard w t (std_plain x)) (meaning_widened (widened w.top (std_plain x))) itself (test_holds w.version (board t).run w.top (std_plain x) second runs few there.len there.standard)
    ∙ ap meaning_widened is

-- ---- a datagram while the stream stands still

stands_still : (version run top : ℕ) (bytes : List ℕ) → run ≢ 1 → is_standard_at version run top bytes ≡ false
stands_still version run top bytes other = go (is_standard_at version run top bytes) refl
  where
    go : (b : Bool) → is_standard_at version run top bytes ≡ b → is_standard_at version run top bytes ≡ false
    go true e = absurd (other (eqb-true run 1 (and_parts _ _ (and_parts _ _ (and_parts _ _ (and_parts _ _ e).0).0).0).1))
    go false e = e

idle_means : (w : Wide) (t : Trace) (digits bytes : List ℕ) → (board t).run ≢ 1 → decode_of digits ≡ Ok bytes → meaning w t (line.datagram digits) ≡ itself
unfolding meaning
idle_means w t digits bytes other is =
    ap (meaning_decoded w t) is ∙ cond-false (is_standard w t bytes) (standard_meaning w.top bytes) itself (stands_still w.version (board t).run w.top bytes other)

-- it's counted, whatever its bytes are
idle_hears : (c : AcqConfig) (t : Trace) (bytes shorter : List ℕ) (running : Bool) (part : Part) → running ≡ false → HearsIfRunning c t bytes running part → HearsIfRunning c t shorter running part
idle_hears c t bytes shorter true part e h = absurd cc
idle_hears c t bytes shorter false part e h = h

idle_line : (c : AcqConfig) (t : Trace) (digits other shorter : List ℕ) (part : Part) → (board t).run ≢ 1 → decode_of other ≡ Ok shorter → DatagramLine c t digits part → DatagramLine c t other part
idle_line c t digits other shorter part stands is (bytes, reads, hears) =
    (shorter, is, idle_hears c t bytes shorter ((board t).run == 1) part (ne_eqb (board t).run 1 stands) hears)

idle_adds : (c : AcqConfig) (t : Trace) (digits other shorter : List ℕ) (part : Part) → (board t).run ≢ 1 → decode_of other ≡ Ok shorter → AddsPart c t (line.datagram digits) part
    → AddsPart c t (line.datagram other) part
idle_adds c t digits other shorter part stands is adds =
    record { spells = idle_line c t digits other shorter part stands is adds.spells; runs = adds.runs; fills = adds.fills }

-- ---- one line

record DoesOne (c : AcqConfig) (w : Wide) (t : Trace) (l m : ScriptLine) (part : Part) (kept : Wide) : Type 0 where
  report : List ℕ
  does : Does c w t m report kept (grown t part)
  refused : kept.refused ≡ w.refused
  same : IsNoMoment l → report ≡ part.text
  alike : Alike part.text report

no_moment_says : (c : AcqConfig) (t : Trace) (l : ScriptLine) (widened : Bool) (text : List ℕ) → IsNoMoment l → said_by c t l widened text ≡ text
no_moment_says c t (line.tick moment) widened text h = absurd h
no_moment_says c t _ widened text h = refl

-- a moment's line has its requests in the one form or in the other
moment_alike : (c : AcqConfig) (t : Trace) (moment : ℕ) (widened : Bool) (part : Part) → AreLines false part.text → TickLine c t moment part
    → Alike part.text (said_by c t (line.tick moment) widened part.text)
moment_alike c t moment true part plain s =
    subst (λ l. Alike l (standard_text (turn c t.inputs (tick moment)).requests)) (sym (ap (λ (p : Part). p.text) s.is)) (requests_alike (turn c t.inputs (tick moment)).requests)
moment_alike c t moment false part plain s = alike_same part.text plain

says_alike : (c : AcqConfig) (t : Trace) (l : ScriptLine) (widened : Bool) (part : Part) → AreLines false part.text → Spells c t l part → Alike part.text (said_by c t l widened part.text)
says_alike c t (line.tick moment) widened part plain s = moment_alike c t moment widened part plain s
says_alike c t _ widened part plain s = alike_same part.text plain

does_one : (c : AcqConfig) (w : Wide) (t : Trace) (l m : ScriptLine) (part : Part) (kept : Wide) → AddsPart c t l part → Narrows w t l m kept → DoesOne c w t l m part kept
does_one c w t _ _ part _ adds (stays l means) = record {
  report = said_by c t l w.widened part.text;
  does = subst (λ meant. DoesAs c w t l meant (said_by c t l w.widened part.text) w (grown t part)) (sym means) (record { part = part; adds = adds; said = refl; is = refl }, refl);
  refused = refl;
  same = λ h. no_moment_says c t l w.widened part.text h;
  alike = says_alike c t l w.widened part (line_says c t l part adds.spells) adds.spells;
}
does_one c w t _ _ part _ adds (packet x digits second runs few may spelled) = record {
  report = part.text;
  does = subst (λ meant. DoesAs c w t (line.datagram digits) meant part.text (record w { top = max w.top (head_of x).block; widened = true }) (grown t part)) (sym (packet_means w t x digits second runs few may spelled))
      (record { part = part; adds = adds; said = refl; is = refl }, refl);
  refused = refl;
  same = λ h. refl;
  alike = alike_same part.text (line_says c t (line.datagram (encode_lower (plain x))) part adds.spells);
}
does_one c w t _ _ part _ adds (idle digits other bytes shorter stands reads reads_other) = record {
  report = part.text;
  does = subst (λ meant. DoesAs c w t (line.datagram other) meant part.text w (grown t part)) (sym (idle_means w t other shorter stands reads_other))
      (record { part = part; adds = idle_adds c t digits other shorter part stands reads_other adds; said = refl; is = refl }, refl);
  refused = refl;
  same = λ h. refl;
  alike = alike_same part.text (line_says c t (line.datagram digits) part adds.spells);
}

-- ---- all lines

-- the same with the lines of both reports
record RunsAlike (c : AcqConfig) (w : Wide) (t : Trace) (lines others : List ScriptLine) (v : Wide) (new : Trace) : Type 0 where
  extended : Leads c t lines new
  report : List ℕ
  narrowed : LeadsWide c w t others report v new
  none_refused : v.refused ≡ w.refused
  said : List ℕ
  extended_said : new.text ≡ t.text ++ said
  alike : Alike said report
  same_report : AllByRecursion IsNoMoment lines → new.text ≡ t.text ++ report

runs_alike : (c : AcqConfig) (w : Wide) (t : Trace) (lines others : List ScriptLine) (v : Wide) (new : Trace) → NarrowsAll c w t lines others v new → RunsAlike c w t lines others v new
runs_alike c w t [] [] v new (kept, is) = record {
  extended = is;
  report = [];
  narrowed = (refl, kept, is);
  none_refused = ap (λ (u : Wide). u.refused) kept;
  said = [];
  extended_said = ap (λ (u : Trace). u.text) is ∙ sym (append-nil t.text);
  alike = alike_none;
  same_report = λ h. ap (λ (u : Trace). u.text) is ∙ sym (append-nil t.text);
}
runs_alike c w t [] (m ∷ others) v new h = absurd h
runs_alike c w t (l ∷ lines) [] v new h = absurd h
runs_alike c w t (l ∷ lines) (m ∷ others) v new (part, kept, adds, narrows, more) =
    let one : DoesOne c w t l m part kept = does_one c w t l m part kept adds narrows in
    let later : RunsAlike c (kept_behind kept t (grown t part)) (grown t part) lines others v new = runs_alike c (kept_behind kept t (grown t part)) (grown t part) lines others v new more in
    record {
      extended = (part, adds, later.extended);
      report = one.report ++ later.report;
      narrowed = (one.report, kept, grown t part, later.report, one.does, later.narrowed, refl);
      none_refused = later.none_refused ∙ one.refused;
      said = part.text ++ later.said;
      extended_said = later.extended_said ∙ append_assoc t.text part.text later.said;
      alike = alike_both part.text later.said one.report later.report one.alike later.alike;
      same_report = λ h.
          later.same_report h.1
          ∙ (ap (λ u. (t.text ++ u) ++ later.report) (sym (one.same h.0)) ∙ append_assoc t.text one.report later.report);
    }

pub run_alike : (c : AcqConfig) (w : Wide) (t : Trace) (lines others : List ScriptLine) (v : Wide) (new : Trace) → NarrowsAll c w t lines others v new → RunAlike c w t lines others v new
run_alike c w t lines others v new h =
    let r : RunsAlike c w t lines others v new = runs_alike c w t lines others v new h in
    record {
      extended = r.extended;
      report = r.report;
      narrowed = r.narrowed;
      none_refused = r.none_refused;
      said = r.said;
      extended_said = r.extended_said;
      same_but_requests = alike_others r.said r.report r.alike;
      same_report = r.same_report;
    }
