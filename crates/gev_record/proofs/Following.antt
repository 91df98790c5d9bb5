-- Lines that lead from one trace to another are run, line by line, in a script of version 1.
use Rattle.std.proofs.Common.{◌≡◌, ℕ, ◌+◌, Bool, true, false, List, [], ◌∷◌, ◌++◌, map, if◌then◌else◌, refl, sym, ap, ◌∙◌, append_assoc, append-nil}
use Rattle.std.specs.Prelude.{Option, Some, None, Ok}
use Rattle.std.specs.List.{AllByRecursion}
use Rattle.gev_script.specs.declared.kind.ScriptKind.{ScriptKind}
use Rattle.gev_script.specs.declared.kind.ScriptKind.TheVariants as kinds
use Rattle.gev_script.specs.Lines as line
use Rattle.gev_script.specs.Lines.{ScriptLine}
use Rattle.gev_script.specs.Grammar.{line_of, first_name}
use Rattle.gev_script.specs.Spelling.{IsScriptLine, spelling}
use Rattle.gev_script.proofs.Spelled.{spelled}
use Rattle.script_runs.specs.Runs.{RunsLines, AreLines}
use Rattle.acquisition_machine.specs.declared.config.AcqConfig.{AcqConfig}
use Rattle.script_trace.specs.Trace.{Trace, Part, grown}
use Rattle.script_trace.specs.Adding.{Spells, Leads}
use Rattle.script_trace.specs.Standing.{running, is_out_of_place, kind_of_read, later_kind, ReplayRuns}
use Rattle.script_trace.proofs.WorkedLines.{nothing_kept, goes_on}
use Rattle.script_replay.proofs.FirstNames.{name_of_line, begins_so}
use Rattle.gev_record.proofs.SpellingsFit.{line_no_feed, line_short}

-- a line that adds to a trace stands behind a header
in_its_place : (c : AcqConfig) (t : Trace) (l : ScriptLine) (part : Part) → Spells c t l part → is_out_of_place (Ok (name_of_line l)) ≡ false
in_its_place c t (line.header config) part s = absurd s
in_its_place c t (line.announce size) part s = refl
in_its_place c t (line.queue place generation) part s = refl
in_its_place c t (line.revoke place generation) part s = refl
in_its_place c t (line.flush operation) part s = refl
in_its_place c t line.start part s = refl
in_its_place c t (line.stop flags) part s = refl
in_its_place c t (line.tick moment) part s = refl
in_its_place c t (line.datagram digits) part s = refl
in_its_place c t line.take part s = refl
in_its_place c t line.kill part s = refl
in_its_place c t line.event_flush part s = refl
in_its_place c t (line.info which) part s = refl
in_its_place c t (line.buffer_info place generation which) part s = refl
in_its_place c t (line.open_child parent index) part s = refl
in_its_place c t (line.close_all serial) part s = refl
in_its_place c t (line.step actor act place) part s = refl
in_its_place c t (line.mode n) part s = refl
in_its_place c t line.end_of_script part s = absurd s
in_its_place c t line.camera_header part s = absurd s
in_its_place c t (line.command peer digits) part s = absurd s
in_its_place c t line.frame part s = absurd s

no_kind : (v : Bool) (k : Option ScriptKind) → v ≡ false → k ≡ None → (if v then Some kinds.Word else k) ≡ None
no_kind true k e is = absurd cc
no_kind false k e is = is

later_none : (text : List ℕ) (l : ScriptLine) → line_of text ≡ Ok l → is_out_of_place (Ok (name_of_line l)) ≡ false → later_kind text ≡ None
later_none text l read place =
    no_kind (is_out_of_place (first_name text)) (kind_of_read (line_of text)) (ap is_out_of_place (begins_so text l read) ∙ place) (ap kind_of_read read)

-- ---- lines that lead

pub record Followed (c : AcqConfig) (t : Trace) (n : ℕ) (ls : List ScriptLine) (new : Trace) : Type 0 where
  pub said : List ℕ
  pub runs : RunsLines ReplayRuns (running c nothing_kept t) n (map spelling ls) said (running c nothing_kept new)
  pub text : new.text ≡ t.text ++ said

pub followed : (c : AcqConfig) (t : Trace) (n : ℕ) (ls : List ScriptLine) (new : Trace) → AllByRecursion IsScriptLine ls → Leads c t ls new → Followed c t n ls new
followed c t n [] new are is = record {
  said = [];
  runs = (refl, ap (λ u. running c nothing_kept u) is);
  text = ap (λ (u : Trace). u.text) is ∙ sym (append-nil t.text);
}
followed c t n (l ∷ ls) new are (part, adds, rest) =
    let read : line_of (spelling l) ≡ Ok l = spelled l are.0 in
    let more = followed c (grown t part) (n + 1) ls new are.1 rest in
    record {
      said = part.text ++ more.said;
      runs = goes_on c t n (spelling l) l part (map spelling ls) more.said (running c nothing_kept new)
          (later_none (spelling l) l read (in_its_place c t l part adds.spells)) read adds more.runs;
      text = more.text ∙ append_assoc t.text part.text more.said;
    }

-- ---- lines as bytes

pub fit_lines : (ls : List ScriptLine) → AllByRecursion IsScriptLine ls → AreLines (map spelling ls)
fit_lines [] are = tt
fit_lines (l ∷ ls) are = (line_no_feed l are.0, line_short l are.0, fit_lines ls are.1)
