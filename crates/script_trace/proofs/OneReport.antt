-- Of one script's lines there is one trace, and one report.
use Rattle.std.proofs.Common.{◌≡◌, ℕ, ◌+◌, ◌≤◌, true, max, List, [], ◌∷◌, ◌++◌, length, refl, sym, ap, subst, ◌∙◌}
use Rattle.std.specs.Prelude.{Ok}
use Rattle.hex.specs.Hex.{encode_lower}
use Rattle.gev_script.specs.Lines as line
use Rattle.gev_script.specs.Lines.{ScriptLine, Config}
use Rattle.gev_script.proofs.Unspelled.{unspelled}
use Rattle.script_runs.specs.declared.ran.Ran.{Ran}
use Rattle.script_runs.specs.declared.ran.Ran.TheVariants.{GoesOn, Ended}
use Rattle.script_runs.specs.Runs.{RunsLines, AreLines}
use Rattle.board_machine.specs.declared.events.Entry.{Entry}
use Rattle.acquisition_machine.specs.declared.config.AcqConfig.{AcqConfig}
use Rattle.script_trace.specs.Trace.{Trace, Part, grown, board}
use Rattle.script_trace.specs.Adding.{AddsPart, Leads}
use Rattle.script_trace.specs.Opening.{opening}
use Rattle.script_trace.specs.Wide.{Wide, nothing_wide, Meaning, itself, wider, none, meaning, said_by, Tells, DoesAs, Does, kept_behind}
use Rattle.script_trace.specs.Standing.{Standing, first, running, config_of, RunsLater, RunsFirst, RunsEnd, ReplayRuns}
use Rattle.script_trace.specs.Laws.{TraceIsOne, IsSame, ReportIsOne}
use Rattle.script_trace.proofs.BlockFills.{IsByOther}
use Rattle.script_trace.proofs.Promises.{by_other}
use Rattle.script_trace.proofs.Trees.{AreOne, one_way}
use Rattle.script_trace.proofs.LineTrees.{rest_of, line_tree, line_follows}

-- ---- one part, one trace

abbrev with_entries : List Entry → Part → Part
with_entries es part = record part { entries = es }

part_one : (c : AcqConfig) (t : Trace) (l : ScriptLine) (a b : Part) → IsByOther l → AddsPart c t l a → AddsPart c t l b → a ≡ b
part_one c t l a b ok adds also =
    let one : AreOne a.entries b.entries (rest_of a) (rest_of b)
    = one_way (board t) (line_tree c t l) a.entries b.entries (rest_of a) (rest_of b) (line_follows c t l a ok adds) (line_follows c t l b ok also) adds.runs also.runs in
    let first_half : a ≡ with_entries b.entries (rest_of a) = ap (λ es. with_entries es (rest_of a)) one.entries in
    let second_half : with_entries b.entries (rest_of a) ≡ b = ap (with_entries b.entries) one.part in
    first_half ∙ second_half

pub trace_one : TraceIsOne
trace_one c [] t a b are is also = is ∙ sym also
trace_one c (l ∷ lines) t a b are (part, adds, rest) (other, adds_also, rest_also) =
    let same : other ≡ part = part_one c t l other part (by_other l are.0) adds_also adds in
    trace_one c lines (grown t part) a b are.1 rest (subst (λ p. Leads c (grown t p) lines b) same rest_also)

-- ---- one line of a script

firsts_agree : (text report report_also : List ℕ) (new new_also : Standing) → RunsFirst text report new → RunsFirst text report_also new_also → IsSame report report_also new new_also
firsts_agree text report report_also new new_also r s =
    let read : Ok (line.header r.config) ≡ Ok (line.header s.config) = sym r.read ∙ s.read in
    let same : r.config ≡ s.config = cc in
    record {
      text = r.silent ∙ sym s.silent;
      standing = r.after ∙ (ap (λ config. running (config_of config) (nothing_wide config.version) opening) same ∙ sym s.after);
    }

-- two ways to do what a line means
record IsOneDeed (report report_also : List ℕ) (v v_also : Wide) (after after_also : Trace) : Type 0 where
  report_is : report ≡ report_also
  kept_is : v ≡ v_also
  trace_is : after ≡ after_also

tells_agree : (c : AcqConfig) (w : Wide) (t : Trace) (l : ScriptLine) (report report_also : List ℕ) (v v_also kept : Wide) (after after_also : Trace) → IsByOther l → Tells c t l w.widened report after → Tells c t l w.widened report_also after_also
    → v ≡ kept → v_also ≡ kept → IsOneDeed report report_also v v_also after after_also
tells_agree c w t l report report_also v v_also kept after after_also ok r s is is_also =
    let part : r.part ≡ s.part = part_one c t l r.part s.part ok r.adds s.adds in
    record {
      report_is = r.said ∙ (ap (λ p. said_by c t l w.widened p.text) part ∙ sym s.said);
      kept_is = is ∙ sym is_also;
      trace_is = r.is ∙ (ap (λ p. grown t p) part ∙ sym s.is);
    }

deeds_agree : (c : AcqConfig) (w : Wide) (t : Trace) (l : ScriptLine) (m : Meaning) (report report_also : List ℕ) (v v_also : Wide) (after after_also : Trace) → IsByOther l → DoesAs c w t l m report v after → DoesAs c w t l m report_also v_also after_also
    → IsOneDeed report report_also v v_also after after_also
deeds_agree c w t l itself report report_also v v_also after after_also ok (r, is) (s, is_also) = tells_agree c w t l report report_also v v_also w after after_also ok r s is is_also
deeds_agree c w t l (wider block bytes) report report_also v v_also after after_also ok (r, is) (s, is_also) =
    tells_agree c w t (line.datagram (encode_lower bytes)) report report_also v v_also (record w { top = max w.top block; widened = true }) after after_also tt r s is is_also
deeds_agree c w t l none report report_also v v_also after after_also ok (silent, same, is) (silent_also, same_also, is_also) =
    record { report_is = silent ∙ sym silent_also; kept_is = is ∙ sym is_also; trace_is = same ∙ sym same_also }

laters_agree : (c : AcqConfig) (w : Wide) (t : Trace) (text report report_also : List ℕ) (new new_also : Standing) → length text ≤ 20000 → RunsLater c w t text report new → RunsLater c w t text report_also new_also → IsSame report report_also new new_also
laters_agree c w t text report report_also new new_also short r s =
    let read : Ok r.says ≡ Ok s.says = sym r.read ∙ s.read in
    let same : s.says ≡ r.says = cc in
    let does : Does c w t r.says report_also s.kept s.trace = subst (λ l. Does c w t l report_also s.kept s.trace) same s.does in
    let one : IsOneDeed report report_also r.kept s.kept r.trace s.trace
    = deeds_agree c w t r.says (meaning w t r.says) report report_also r.kept s.kept r.trace s.trace (by_other r.says (unspelled text r.says short r.read).is_line) r.does does in
    record {
      text = one.report_is;
      standing =
          r.after
          ∙ (ap (λ v. running c (kept_behind v t r.trace) r.trace) one.kept_is
          ∙ (ap (λ u. running c (kept_behind s.kept t u) u) one.trace_is ∙ sym s.after));
    }

ends_agree : (c : AcqConfig) (w : Wide) (t : Trace) (text report report_also : List ℕ) (new new_also : Standing) → RunsEnd c w t text report new → RunsEnd c w t text report_also new_also → IsSame report report_also new new_also
ends_agree c w t text report report_also new new_also r s = record { text = r.said ∙ sym s.said; standing = r.after ∙ sym s.after }

-- the last line adds nothing
never_both : (c : AcqConfig) (w : Wide) (t : Trace) (text report report_also : List ℕ) (new new_also : Standing) → RunsLater c w t text report new → RunsEnd c w t text report_also new_also → ⊥
unfolding meaning
never_both c w t text report report_also new new_also r s =
    let read : Ok r.says ≡ Ok line.end_of_script = sym r.read ∙ s.read in
    let same : r.says ≡ line.end_of_script = cc in
    let does : Does c w t line.end_of_script report r.kept r.trace = subst (λ l. Does c w t l report r.kept r.trace) same r.does in
    does.0.adds.spells

line_agrees : (m : Standing) (n : ℕ) (text : List ℕ) (ran ran_also : Ran) (report report_also : List ℕ) (new new_also : Standing) → length text ≤ 20000 → ReplayRuns m n text ran report new → ReplayRuns m n text ran_also report_also new_also → (ran ≡ ran_also) × IsSame report report_also new new_also
line_agrees first n text GoesOn GoesOn report report_also new new_also short r s = (refl, firsts_agree text report report_also new new_also r s)
line_agrees first n text GoesOn Ended report report_also new new_also short r s = absurd s
line_agrees first n text Ended ran report report_also new new_also short r s = absurd r
line_agrees (running c w t) n text GoesOn GoesOn report report_also new new_also short r s = (refl, laters_agree c w t text report report_also new new_also short r s)
line_agrees (running c w t) n text GoesOn Ended report report_also new new_also short r s = absurd (never_both c w t text report report_also new new_also r s)
line_agrees (running c w t) n text Ended GoesOn report report_also new new_also short r s = absurd (never_both c w t text report_also report new_also new s r)
line_agrees (running c w t) n text Ended Ended report report_also new new_also short r s = (refl, ends_agree c w t text report report_also new new_also r s)

lines_agree : (m : Standing) (n : ℕ) (lines : List (List ℕ)) (text text_also : List ℕ) (new new_also : Standing) → AreLines lines → RunsLines ReplayRuns m n lines text new → RunsLines ReplayRuns m n lines text_also new_also → IsSame text text_also new new_also
lines_agree m n [] text text_also new new_also are (silent, is) (silent_also, is_also) = record { text = silent ∙ sym silent_also; standing = is ∙ sym is_also }
lines_agree m n (l ∷ lines) text text_also new new_also (no_feed, short, are) (mid, front, rest, runs, more, parts) (mid_also, front_also, rest_also, runs_also, more_also, parts_also) =
    let one = (line_agrees m (n + 1) l GoesOn GoesOn front front_also mid mid_also short runs runs_also).1 in
    let moved : RunsLines ReplayRuns mid (n + 1) lines rest_also new_also = subst (λ u. RunsLines ReplayRuns u (n + 1) lines rest_also new_also) (sym one.standing) more_also in
    let later : IsSame rest rest_also new new_also = lines_agree mid (n + 1) lines rest rest_also new new_also are more moved in
    record {
      text = parts ∙ (ap (λ u. u ++ rest) one.text ∙ (ap (λ u. front_also ++ u) later.text ∙ sym parts_also));
      standing = later.standing;
    }

pub report_one : ReportIsOne
report_one = record { lines_agree = lines_agree; line_agrees = line_agrees }
