-- An explained run holds the replay's run, and its text the report.
use Rattle.std.proofs.Common.{◌≡◌, ℕ, ◌+◌, List, [], ◌∷◌, ◌++◌, false, refl, sym, ap, subst}
use Rattle.script_runs.specs.declared.ran.Ran.{Ran}
use Rattle.script_runs.specs.declared.ran.Ran.TheVariants.{GoesOn, Ended}
use Rattle.script_runs.specs.Runs.{RunsLines}
use Rattle.script_trace.specs.Standing.{Standing, running, ReplayRuns}
use Rattle.script_trace.specs.Standing.{first as at_first}
use Rattle.script_trace.proofs.Scripts.{lines_judged}
use Rattle.acquisition_machine.specs.Runs.{After}
use Rattle.script_trace.specs.Notes.{Note}
use Rattle.script_trace.specs.Texts.{words_line, notes_text}
use Rattle.script_trace.specs.Wide.{meaning}
use Rattle.script_trace.specs.LineNotes.{notes_as}
use Rattle.script_trace.specs.NoteLines.{LeavesOut}
use Rattle.script_trace.proofs.Feeds.{AreLines, leaves_notes, leaves_both}
use Rattle.script_trace.proofs.NoteTexts.{notes_note, blocks_note}
use Rattle.script_trace.proofs.ReportTexts.{end_plain}
use Rattle.script_trace.proofs.Said.{does_say}
use Rattle.script_trace.specs.Explaining.{Telling, untold, blocks_words, ExplainsFrom, ExplainRuns}
use Rattle.script_trace.specs.NoteLaws.{HoldsReport, HoldsLast, ExplanationsHoldReports, ExplanationsAreJudged}

-- nothing is told
leaves_none : (text : List ℕ) → text ≡ [] → LeavesOut text text
leaves_none text silent = subst (λ l. LeavesOut l l) (sym silent) (record { lines = []; are = refl; whole = tt; rest = refl })

-- ---- one line

holds_from : (notes since : List Note) (s : Standing) (n : ℕ) (line : List ℕ) (ran : Ran) (told : List ℕ) (new : Telling) → ExplainsFrom notes since s n line ran told new
    → HoldsLast (record { notes = notes; since = since; standing = s }) n line ran told new
holds_from notes since at_first n line GoesOn told new e = record {
  said = told;
  replays = subst (λ (m : Standing). ReplayRuns at_first n line GoesOn told m) (sym (ap (λ (m : Telling). m.standing) e.now)) e.replays;
  leaves = leaves_none told e.replays.silent;
}
holds_from notes since at_first n line Ended told new e = absurd e
holds_from notes since (running c w t) n line GoesOn told new e =
    let added : List Note = notes_as c w t e.replays.says (meaning w t e.replays.says) e.report e.replays.kept e.replays.trace e.replays.does in
    record {
      said = e.report;
      replays = subst (λ (m : Standing). ReplayRuns (running c w t) n line GoesOn e.report m) (sym (ap (λ (m : Telling). m.standing) e.now)) e.replays;
      leaves = subst (λ l. LeavesOut l e.report) (sym e.told)
          (leaves_notes (notes_text n (After c e.replays.trace.inputs).now added) e.report (notes_note n (After c e.replays.trace.inputs).now added)
          (does_say c w t e.replays.says (meaning w t e.replays.says) e.report e.replays.kept e.replays.trace e.replays.does));
    }
holds_from notes since (running c w t) n line Ended told new e = record {
  said = e.report;
  replays = subst (λ (m : Standing). ReplayRuns (running c w t) n line Ended e.report m) (sym (ap (λ (m : Telling). m.standing) e.now)) e.replays;
  leaves = subst (λ l. LeavesOut l e.report) (sym e.told)
      (leaves_notes (words_line n (After c t.inputs).now (blocks_words c t notes)) e.report (blocks_note n (After c t.inputs).now c t notes)
      (subst (λ l. AreLines false l) (sym e.replays.said) (end_plain c w.refused t)));
}

pub last : (m : Telling) (n : ℕ) (line : List ℕ) (ran : Ran) (told : List ℕ) (new : Telling) → ExplainRuns m n line ran told new → HoldsLast m n line ran told new
last m n line ran told new e = holds_from m.notes m.since m.standing n line ran told new e

-- ---- all lines

record HoldsFrom (m : Telling) (n : ℕ) (lines : List (List ℕ)) (told : List ℕ) (new : Telling) : Type 0 where
  said : List ℕ
  replays : RunsLines ReplayRuns m.standing n lines said new.standing
  leaves : LeavesOut told said

so_far_from : (m : Telling) (n : ℕ) (lines : List (List ℕ)) (told : List ℕ) (new : Telling) → RunsLines ExplainRuns m n lines told new → HoldsFrom m n lines told new
so_far_from m n [] told new (silent, is) = record {
  said = [];
  replays = (refl, ap (λ (k : Telling). k.standing) is);
  leaves = subst (λ l. LeavesOut l []) (sym silent) (leaves_none [] refl);
}
so_far_from m n (l ∷ lines) told new (mid, front, rest, runs, later, parts) =
    let one = last m (n + 1) l GoesOn front mid runs in
    let next = so_far_from mid (n + 1) lines rest new later in
    record {
      said = one.said ++ next.said;
      replays = (mid.standing, one.said, next.said, one.replays, next.replays, refl);
      leaves = subst (λ k. LeavesOut k (one.said ++ next.said)) (sym parts) (leaves_both front rest one.said next.said one.leaves next.leaves);
    }

so_far : (lines : List (List ℕ)) (told : List ℕ) (new : Telling) → RunsLines ExplainRuns untold 0 lines told new → HoldsReport lines told new
so_far lines told new runs =
    let h = so_far_from untold 0 lines told new runs in record { said = h.said; replays = h.replays; leaves = h.leaves }

pub explanations_hold_reports : ExplanationsHoldReports
explanations_hold_reports = record { so_far = so_far; last = last }

-- ---- judged

pub explanations_are_judged : ExplanationsAreJudged
explanations_are_judged = record {
  goes = λ m new n line report at runs.
      let h = last m (n + 1) line GoesOn report new runs in lines_judged.goes m.standing new.standing n line h.said at h.replays;
  ended = λ m new n line report at runs.
      let h = last m (n + 1) line Ended report new runs in lines_judged.ended m.standing new.standing n line h.said at h.replays;
  refused_so = λ m n line kind at refuses. lines_judged.refused_so m.standing n line kind at refuses;
}
