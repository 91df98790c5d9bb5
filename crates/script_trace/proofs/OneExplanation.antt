-- Of one script's lines there is one explanation.
use Rattle.std.proofs.Common.{◌≡◌, ℕ, ◌+◌, ◌≤◌, List, [], ◌∷◌, ◌++◌, length, false, refl, sym, ap, subst, ◌∙◌, arith, Ok}
use Rattle.std.proofs.lemmas.List.{append_cancel_left}
use Rattle.hex.specs.Hex.{encode_lower}
use Rattle.gev_script.specs.Lines as line
use Rattle.gev_script.specs.Lines.{ScriptLine}
use Rattle.script_runs.specs.declared.ran.Ran.{Ran}
use Rattle.script_runs.specs.declared.ran.Ran.TheVariants.{GoesOn, Ended}
use Rattle.script_runs.specs.Runs.{RunsLines, AreLines}
use Rattle.board_machine.specs.declared.events.Entry.{Entry}
use Rattle.acquisition_machine.specs.declared.config.AcqConfig.{AcqConfig}
use Rattle.acquisition_machine.specs.Machine.{Input}
use Rattle.acquisition_machine.specs.Runs.{After}
use Rattle.script_trace.specs.Notes.{Note}
use Rattle.script_trace.specs.Inputs.{notes_from}
use Rattle.script_trace.specs.Texts.{words_line, notes_text}
use Rattle.script_trace.specs.Trace.{Trace, Part, grown, board}
use Rattle.script_trace.specs.Wide.{Wide, Meaning, itself, wider, none, meaning, DoesAs, kept_behind}
use Rattle.script_trace.specs.Standing.{Standing, running}
use Rattle.script_trace.specs.Standing.{first as at_first}
use Rattle.script_trace.specs.Laws.{IsSame}
use Rattle.script_trace.proofs.OneReport.{report_one}
use Rattle.script_trace.specs.Drops.{drops_from}
use Rattle.script_trace.specs.LineNotes.{idle_notes, part_notes, inputs_as, notes_as}
use Rattle.script_trace.specs.Explaining.{Telling, since_after, blocks_words, ExplainsFirst, ExplainsLater, ExplainsEnd, ExplainsFrom, ExplainRuns}
use Rattle.script_trace.specs.NoteLaws.{IsSameTelling, ExplanationIsOne}

-- ---- what a line does, once

-- two lists of notes and of inputs are the same
record AreSame (notes notes_also : List Note) (inputs inputs_also : List Input) : Type 0 where
  notes_are : notes ≡ notes_also
  inputs_are : inputs ≡ inputs_also

-- the notes of a part with these datagrams, entries and inputs
abbrev notes_with : AcqConfig → Trace → ScriptLine → ℕ → List Entry → List Input → List Note
notes_with c t l idle entries inputs = idle_notes l idle ++ notes_from c (board t) (drops_from t.entries false [] entries) (After c t.inputs) inputs

-- two parts that lead to one trace have the same notes and inputs
parts_agree : (c : AcqConfig) (t : Trace) (l : ScriptLine) (p q : Part) → grown t p ≡ grown t q → AreSame (part_notes c t l p) (part_notes c t l q) p.inputs q.inputs
parts_agree c t l p q same =
    let entries : p.entries ≡ q.entries = append_cancel_left t.entries p.entries q.entries (ap (λ (u : Trace). u.entries) same) in
    let inputs : p.inputs ≡ q.inputs = append_cancel_left t.inputs p.inputs q.inputs (ap (λ (u : Trace). u.inputs) same) in
    let sum : t.idle + p.idle ≡ t.idle + q.idle = ap (λ (u : Trace). u.idle) same in
    let idle : p.idle ≡ q.idle = omega (arith, sum) in
    record {
      notes_are = ap (λ (k : ℕ). notes_with c t l k p.entries p.inputs) idle
          ∙ (ap (λ es. notes_with c t l q.idle es p.inputs) entries ∙ ap (λ is. notes_with c t l q.idle q.entries is) inputs);
      inputs_are = inputs;
    }

-- two ways to do what a line means that lead to one trace
deeds_agree : (c : AcqConfig) (w : Wide) (t : Trace) (l : ScriptLine) (m : Meaning) (report report_also : List ℕ) (v v_also : Wide) (after after_also : Trace) (d : DoesAs c w t l m report v after) (e : DoesAs c w t l m report_also v_also after_also) → after ≡ after_also
    → AreSame (notes_as c w t l m report v after d) (notes_as c w t l m report_also v_also after_also e) (inputs_as c w t l m report v after d) (inputs_as c w t l m report_also v_also after_also e)
deeds_agree c w t l itself report report_also v v_also after after_also d e same = parts_agree c t l d.0.part e.0.part (sym d.0.is ∙ (same ∙ e.0.is))
deeds_agree c w t l (wider block bytes) report report_also v v_also after after_also d e same =
    parts_agree c t (line.datagram (encode_lower bytes)) d.0.part e.0.part (sym d.0.is ∙ (same ∙ e.0.is))
deeds_agree c w t l none report report_also v v_also after after_also d e same = record { notes_are = refl; inputs_are = refl }

-- ---- one line of a script

-- the notes and the inputs of the line, of which another line is read
abbrev AgreesWith : (c : AcqConfig) (w : Wide) (t : Trace) (notes : List Note) (inputs : List Input) (after : Trace) → ScriptLine → Type 0
AgreesWith c w t notes inputs after l =
    (report : List ℕ) (v : Wide) (after_also : Trace) (d : DoesAs c w t l (meaning w t l) report v after_also) → after ≡ after_also
    → AreSame notes (notes_as c w t l (meaning w t l) report v after_also d) inputs (inputs_as c w t l (meaning w t l) report v after_also d)

abbrev telling_of : List Note → List Note → Standing → Telling
telling_of notes since standing = record { notes = notes; since = since; standing = standing }

laters_agree : (c : AcqConfig) (w : Wide) (t : Trace) (notes since : List Note) (n : ℕ) (text said said_also : List ℕ) (new new_also : Telling) → length text ≤ 20000 → ExplainsLater c w t notes since n text said new → ExplainsLater c w t notes since n text said_also new_also
    → IsSameTelling said said_also new new_also
laters_agree c w t notes since n text said said_also new new_also short e f =
    let r = e.replays in
    let s = f.replays in
    let one : IsSame e.report f.report e.after f.after = (report_one.line_agrees (running c w t) n text GoesOn GoesOn e.report f.report e.after f.after short r s).1 in
    let read : Ok r.says ≡ Ok s.says = sym r.read ∙ s.read in
    let says : r.says ≡ s.says = cc in
    let stands : running c (kept_behind r.kept t r.trace) r.trace ≡ running c (kept_behind s.kept t s.trace) s.trace = sym r.after ∙ (one.standing ∙ s.after) in
    let trace : r.trace ≡ s.trace = cc in
    let mine : List Note = notes_as c w t r.says (meaning w t r.says) e.report r.kept r.trace r.does in
    let theirs : List Note = notes_as c w t s.says (meaning w t s.says) f.report s.kept s.trace s.does in
    let inputs : List Input = inputs_as c w t r.says (meaning w t r.says) e.report r.kept r.trace r.does in
    let inputs_also : List Input = inputs_as c w t s.says (meaning w t s.says) f.report s.kept s.trace s.does in
    let agrees : AgreesWith c w t mine inputs r.trace r.says =
    λ report v after d same. deeds_agree c w t r.says (meaning w t r.says) e.report report r.kept v r.trace after r.does d same in
    let both : AreSame mine theirs inputs inputs_also = subst (AgreesWith c w t mine inputs r.trace) says agrees f.report s.kept s.trace s.does trace in
    record {
      text = e.told
          ∙ (ap (λ (u : Trace). notes_text n (After c u.inputs).now mine ++ e.report) trace
          ∙ (ap (λ l. notes_text n (After c s.trace.inputs).now l ++ e.report) both.notes_are
          ∙ (ap (λ l. notes_text n (After c s.trace.inputs).now theirs ++ l) one.text ∙ sym f.told)));
      telling = e.now
          ∙ (ap (λ l. telling_of (notes ++ l) (since_after inputs since l) e.after) both.notes_are
          ∙ (ap (λ q. telling_of (notes ++ theirs) (since_after q since theirs) e.after) both.inputs_are
          ∙ (ap (telling_of (notes ++ theirs) (since_after inputs_also since theirs)) one.standing ∙ sym f.now)));
    }

firsts_agree : (notes since : List Note) (n : ℕ) (text said said_also : List ℕ) (new new_also : Telling) → length text ≤ 20000 → ExplainsFirst notes since text said new → ExplainsFirst notes since text said_also new_also → IsSameTelling said said_also new new_also
firsts_agree notes since n text said said_also new new_also short e f =
    let one : IsSame said said_also e.after f.after = (report_one.line_agrees at_first n text GoesOn GoesOn said said_also e.after f.after short e.replays f.replays).1 in
    record { text = one.text; telling = e.now ∙ (ap (telling_of notes since) one.standing ∙ sym f.now) }

ends_agree : (c : AcqConfig) (w : Wide) (t : Trace) (notes since : List Note) (n : ℕ) (text said said_also : List ℕ) (new new_also : Telling) → length text ≤ 20000 → ExplainsEnd c w t notes since n text said new → ExplainsEnd c w t notes since n text said_also new_also
    → IsSameTelling said said_also new new_also
ends_agree c w t notes since n text said said_also new new_also short e f =
    let one : IsSame e.report f.report e.after f.after = (report_one.line_agrees (running c w t) n text Ended Ended e.report f.report e.after f.after short e.replays f.replays).1 in
    record {
      text = e.told ∙ (ap (λ l. words_line n (After c t.inputs).now (blocks_words c t notes) ++ l) one.text ∙ sym f.told);
      telling = e.now ∙ (ap (telling_of notes since) one.standing ∙ sym f.now);
    }

never_both : (c : AcqConfig) (w : Wide) (t : Trace) (notes since : List Note) (n : ℕ) (text said said_also : List ℕ) (new new_also : Telling) → length text ≤ 20000 → ExplainsLater c w t notes since n text said new → ExplainsEnd c w t notes since n text said_also new_also → ⊥
never_both c w t notes since n text said said_also new new_also short e f =
    let same : GoesOn ≡ Ended = (report_one.line_agrees (running c w t) n text GoesOn Ended e.report f.report e.after f.after short e.replays f.replays).0 in
    absurd cc

from_one : (notes since : List Note) (s : Standing) (n : ℕ) (text : List ℕ) (ran ran_also : Ran) (said said_also : List ℕ) (new new_also : Telling) → length text ≤ 20000 → ExplainsFrom notes since s n text ran said new → ExplainsFrom notes since s n text ran_also said_also new_also
    → (ran ≡ ran_also) × IsSameTelling said said_also new new_also
from_one notes since at_first n text GoesOn GoesOn said said_also new new_also short e f = (refl, firsts_agree notes since n text said said_also new new_also short e f)
from_one notes since at_first n text GoesOn Ended said said_also new new_also short e f = absurd f
from_one notes since at_first n text Ended ran said said_also new new_also short e f = absurd e
from_one notes since (running c w t) n text GoesOn GoesOn said said_also new new_also short e f = (refl, laters_agree c w t notes since n text said said_also new new_also short e f)
from_one notes since (running c w t) n text GoesOn Ended said said_also new new_also short e f = absurd (never_both c w t notes since n text said said_also new new_also short e f)
from_one notes since (running c w t) n text Ended GoesOn said said_also new new_also short e f = absurd (never_both c w t notes since n text said_also said new_also new short f e)
from_one notes since (running c w t) n text Ended Ended said said_also new new_also short e f = (refl, ends_agree c w t notes since n text said said_also new new_also short e f)

line_agrees : (m : Telling) (n : ℕ) (text : List ℕ) (ran ran_also : Ran) (said said_also : List ℕ) (new new_also : Telling) → length text ≤ 20000 → ExplainRuns m n text ran said new → ExplainRuns m n text ran_also said_also new_also
    → (ran ≡ ran_also) × IsSameTelling said said_also new new_also
line_agrees m n text ran ran_also said said_also new new_also short e f = from_one m.notes m.since m.standing n text ran ran_also said said_also new new_also short e f

-- ---- all lines

lines_agree : (m : Telling) (n : ℕ) (lines : List (List ℕ)) (said said_also : List ℕ) (new new_also : Telling) → AreLines lines → RunsLines ExplainRuns m n lines said new → RunsLines ExplainRuns m n lines said_also new_also → IsSameTelling said said_also new new_also
lines_agree m n [] said said_also new new_also are (silent, is) (silent_also, is_also) = record { text = silent ∙ sym silent_also; telling = is ∙ sym is_also }
lines_agree m n (l ∷ lines) said said_also new new_also (no_feed, short, are) (mid, front, rest, runs, more, parts) (mid_also, front_also, rest_also, runs_also, more_also, parts_also) =
    let one = (line_agrees m (n + 1) l GoesOn GoesOn front front_also mid mid_also short runs runs_also).1 in
    let moved : RunsLines ExplainRuns mid (n + 1) lines rest_also new_also = subst (λ u. RunsLines ExplainRuns u (n + 1) lines rest_also new_also) (sym one.telling) more_also in
    let later : IsSameTelling rest rest_also new new_also = lines_agree mid (n + 1) lines rest rest_also new new_also are more moved in
    record {
      text = parts ∙ (ap (λ u. u ++ rest) one.text ∙ (ap (λ u. front_also ++ u) later.text ∙ sym parts_also));
      telling = later.telling;
    }

pub explanation_one : ExplanationIsOne
explanation_one = record { lines_agree = lines_agree; line_agrees = line_agrees }
