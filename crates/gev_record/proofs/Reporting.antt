-- The report of a recorded script.
use Rattle.std.proofs.Common.{◌≡◌, ℕ, ◌+◌, ◌*◌, ◌≤◌, nat_eq, Bool, true, false, List, [], ◌∷◌, ◌++◌, length, map, refl, sym, ap, subst, ◌∙◌, arith, append-nil, ap₂, lit≤}
use Rattle.std.specs.Prelude.{codes}
use Rattle.std.specs.List.{AllByRecursion, filter}
use Rattle.std.specs.Fmt.{decimal}
use Rattle.std.proofs.lemmas.Bool.{ne_eqb}
use Rattle.std.proofs.lemmas.List.{length-map}
use Rattle.std.proofs.lemmas.List.Elements.{All-from_get_or}
use Rattle.std.proofs.lemmas.List.Splits.{slice_split_at}
use Rattle.gev_types.specs.Filling.{Filling}
use Rattle.gev_report.specs.declared.end_counts.EndCounts.{EndCounts}
use Rattle.gev_report.specs.ReplayLines.{end_line}
use Rattle.gev_script.specs.Lines as line
use Rattle.gev_script.specs.Lines.{ScriptLine}
use Rattle.gev_script.specs.Spelling.{IsScriptLine, spelling}
use Rattle.gev_script.specs.Streams.{HasNoFeed}
use Rattle.gev_script.specs.Words.{parts_of}
use Rattle.gev_script.proofs.Spelled.{spelled}
use Rattle.script_runs.specs.declared.ran.Ran.TheVariants.{Ended}
use Rattle.script_runs.specs.Runs.{RunsLines, lines_text, AreLines}
use Rattle.acquisition_machine.specs.Blocks.{fills}
use Rattle.acquisition_machine.specs.Machine.{Input}
use Rattle.acquisition_machine.specs.Runs.{first_state, retired_from}
use Rattle.acquisition_machine.specs.declared.config.AcqConfig.{AcqConfig}
use Rattle.acquisition_machine.proofs.Order.{all_append}
use Rattle.script_trace.specs.Trace.{Trace}
use Rattle.script_trace.specs.Opening.{opening}
use Rattle.script_trace.specs.Ending.{dropped_text, end_text, end_counts}
use Rattle.script_trace.specs.Standing.{first, running, ReplayRuns}
use Rattle.script_trace.specs.Laws.{IsSame}
use Rattle.script_trace.proofs.OneReport.{report_one}
use Rattle.script_trace.proofs.WorkedLines.{nothing_kept}
use Rattle.acquisition_machine.specs.Erased.{images}
use Rattle.acquisition_machine.specs.Turns.{Noted}
use Rattle.gev_record.specs.Script.{live_config, live_header, recorded_lines, script_of}
use Rattle.gev_record.specs.Marks.{IsMarkedRun, HasWidths}
use Rattle.gev_record.specs.TakeLines.{is_take_line, take_lines, AreTakesOf}
use Rattle.gev_record.proofs.Ends.{removed_taken}
use Rattle.gev_record.proofs.LinesFit.{lines_fit}
use Rattle.gev_record.proofs.Marking.{marks_tell_the_script}
use Rattle.gev_record.proofs.Replaying.{whole, recorded_runs_replay}
use Rattle.gev_record.proofs.Saying.{IsClean, Says, contents, filter-append, says_nothing, says_other, says_both, clean_number}
use Rattle.gev_record.specs.Reports.{Reports, RecordedScriptsReport}
use Rattle.gev_record.proofs.Counts.{few_lines}
use Rattle.gev_record.proofs.SpellingsFit.{no_feed}
use Rattle.gev_record.proofs.Following.{Followed, followed, fit_lines}

-- ---- lines and their text

parts_line : (l rest : List ℕ) → HasNoFeed l → parts_of 10 (l ++ 10 ∷ rest) ≡ l ∷ parts_of 10 rest
parts_line l rest h =
    slice_split_at (λ b. nat_eq b 10) l 10 rest (All-from_get_or (λ b. nat_eq b 10 ≡ false) l 0 (λ i lt. ne_eqb _ _ (h i lt))) refl

abbrev HaveNoFeed : List (List ℕ) → Type 0
HaveNoFeed ls = AllByRecursion HasNoFeed ls

parts_text : (ls : List (List ℕ)) → HaveNoFeed ls → parts_of 10 (lines_text ls) ≡ ls ++ [] ∷ []
parts_text [] all = refl
parts_text (l ∷ ls) all = parts_line l (lines_text ls) all.0 ∙ ap (λ ps. l ∷ ps) (parts_text ls all.1)

record SameEnds (xs ys : List (List ℕ)) (x y : List ℕ) : Type 0 where
  front : xs ≡ ys
  last : x ≡ y

not_longer : (x : List ℕ) (b c : List ℕ) (ys : List (List ℕ)) → x ∷ [] ≡ b ∷ (ys ++ c ∷ []) → ⊥
not_longer x b c [] e = cc
not_longer x b c (y ∷ ys) e = cc

same_ends : (xs ys : List (List ℕ)) (x y : List ℕ) → xs ++ x ∷ [] ≡ ys ++ y ∷ [] → SameEnds xs ys x y
same_ends [] [] x y e = record { front = refl; last = cc }
same_ends [] (b ∷ ys) x y e = absurd (not_longer x b y ys e)
same_ends (a ∷ xs) [] x y e = absurd (not_longer y a x xs (sym e))
same_ends (a ∷ xs) (b ∷ ys) x y e =
    let tails : xs ++ x ∷ [] ≡ ys ++ y ∷ [] = cc in
    let heads : a ≡ b = cc in
    let rest = same_ends xs ys x y tails in
    record { front = ap₂ (λ h t. h ∷ t) heads rest.front; last = rest.last }

no_feeds : (ls : List (List ℕ)) → AreLines ls → HaveNoFeed ls
no_feeds [] are = tt
no_feeds (l ∷ ls) are = (are.0, no_feeds ls are.2)

lines_same : (xs ys : List (List ℕ)) → AreLines xs → AreLines ys → lines_text xs ≡ lines_text ys → xs ≡ ys
lines_same xs ys a b e =
    (same_ends xs ys [] [] (sym (parts_text xs (no_feeds xs a)) ∙ (ap (parts_of 10) e ∙ parts_text ys (no_feeds ys b)))).front

front_are : (xs : List (List ℕ)) (y : List ℕ) → AreLines (xs ++ y ∷ []) → AreLines xs × (length y ≤ 20000)
front_are [] y are = (tt, are.1)
front_are (x ∷ xs) y are = (let rest = front_are xs y are.2 in ((are.0, are.1, rest.0), rest.1))

-- ---- a script has one report

one_report : (script r s : List ℕ) → Reports script r → Reports script s → r ≡ s
one_report script r s a b =
    let ends = same_ends a.lines b.lines a.last b.last
    (lines_same (a.lines ++ a.last ∷ []) (b.lines ++ b.last ∷ []) a.are b.are (sym a.script_is ∙ b.script_is)) in
    let are = front_are b.lines b.last b.are in
    let runs : RunsLines ReplayRuns first 0 b.lines a.said a.now = subst (λ ls. RunsLines ReplayRuns first 0 ls a.said a.now) ends.front a.runs in
    let one : IsSame a.said b.said a.now b.now = report_one.lines_agree first 0 b.lines a.said b.said a.now b.now are.0 runs b.runs in
    let ended : ReplayRuns b.now (length b.lines + 1) b.last Ended a.last_said a.new =
    subst (λ m. ReplayRuns m (length b.lines + 1) b.last Ended a.last_said a.new) one.standing
    (subst (λ ls. ReplayRuns a.now (length ls + 1) b.last Ended a.last_said a.new) ends.front
    (subst (λ l. ReplayRuns a.now (length a.lines + 1) l Ended a.last_said a.new) ends.last a.ends)) in
    let two = (report_one.line_agrees b.now (length b.lines + 1) b.last Ended Ended a.last_said b.last_said a.new b.new are.1 ended b.ends).1 in
    a.report_is ∙ (ap₂ (λ x y. x ++ y) one.text two.text ∙ sym b.report_is)

-- ---- what a report says

clean_lines : (ls : List (List ℕ)) → AllByRecursion IsClean ls → HaveNoFeed ls
clean_lines [] all = tt
clean_lines (l ∷ ls) all = (no_feed l all.0, clean_lines ls all.1)

takes_of : (text : List ℕ) (fs : List Filling) → Says text fs → AreTakesOf (take_lines text) fs
takes_of text fs says =
    subst (λ ls. AreTakesOf ls fs)
    (sym (ap (λ t. filter is_take_line (parts_of 10 t)) says.is
    ∙ (ap (filter is_take_line) (parts_text says.lines (clean_lines says.lines says.clean))
    ∙ (filter-append says.lines ([] ∷ []) ∙ append-nil (filter is_take_line says.lines))))) says.takes

says_dropped : (v : Bool) (n : ℕ) → Says (dropped_text v n) []
says_dropped true n = says_other (codes "dropped" ∷ codes " " ∷ decimal n ∷ []) (refl, (refl, (clean_number n, tt))) refl
says_dropped false n = says_nothing

says_counts : (e : EndCounts) → Says (end_line e) []
says_counts e =
    says_other (
    codes "end taken=" ∷ decimal e.taken
    ∷ codes " fills=" ∷ decimal e.fills
    ∷ codes " complete=" ∷ decimal e.complete
    ∷ codes " underrun=" ∷ decimal e.underrun
    ∷ codes " requests=" ∷ decimal e.requests
    ∷ codes " foreign=" ∷ decimal e.foreign
    ∷ codes " late=" ∷ decimal e.late
    ∷ codes " repeat=" ∷ decimal e.repeat
    ∷ codes " misfit=" ∷ decimal e.misfit
    ∷ codes " starved=" ∷ decimal e.starved
    ∷ codes " notice=" ∷ decimal e.notice
    ∷ codes " idle=" ∷ decimal e.idle ∷ []
    ) (
      refl,
      (
        clean_number e.taken,
        (
          refl,
          (
            clean_number e.fills,
            (
              refl,
              (
                clean_number e.complete,
                (
                  refl,
                  (
                    clean_number e.underrun,
                    (
                      refl,
                      (
                        clean_number e.requests,
                        (
                          refl,
                          (
                            clean_number e.foreign,
                            (
                              refl,
                              (
                                clean_number e.late,
                                (
                                  refl,
                                  (
                                    clean_number e.repeat,
                                    (refl, (clean_number e.misfit, (refl, (clean_number e.starved, (refl, (clean_number e.notice, (refl, (clean_number e.idle, tt)))))))),
                                  ),
                                ),
                              ),
                            ),
                          ),
                        ),
                      ),
                    ),
                  ),
                ),
              ),
            ),
          ),
        ),
      ),
    )
    refl

says_end : (c : AcqConfig) (refused : ℕ) (t : Trace) → Says (end_text c refused t) []
says_end c refused t = says_both (dropped_text t.told_mode _) (end_line (end_counts c refused t)) [] [] (says_dropped t.told_mode _) (says_counts (end_counts c refused t))

-- ---- the recorded script's

is_header : IsScriptLine (line.header live_header)
is_header = record {
  version_from = lit≤ tt;
  version_to = lit≤ tt;
  p_from = lit≤ tt;
  p_to = lit≤ tt;
  window_from = lit≤ tt;
  window_to = lit≤ tt;
  timeout_from = lit≤ tt;
  timeout_to = lit≤ tt;
  age_from = lit≤ tt;
  age_to = lit≤ tt;
  rounds = lit≤ tt;
}

map-append : (xs ys : List ScriptLine) → map spelling (xs ++ ys) ≡ map spelling xs ++ map spelling ys
map-append [] ys = refl
map-append (x ∷ xs) ys = ap (λ l. spelling x ∷ l) (map-append xs ys)

-- the script leads to a trace that says this
record Led (ts : List Noted) (fs : List Filling) : Type 0 where
  to : Trace
  lines : AllByRecursion IsScriptLine (recorded_lines ts)
  follows : Followed live_config opening 1 (recorded_lines ts) to
  says : Says to.text fs

led : (ts : List Noted) (q : List Input) → AllByRecursion HasWidths ts → IsMarkedRun first_state ts q → Led ts (images (fills live_config.p (retired_from live_config first_state q)))
led ts q widths marked =
    let all = whole ts widths (marks_tell_the_script ts q marked) in
    let fit = lines_fit ts widths in
    let taken = (recorded_runs_replay ts q widths marked).taken all.to all.leads in
    record {
      to = all.to;
      lines = fit;
      follows = followed live_config opening 1 (recorded_lines ts) all.to fit all.leads;
      says = subst (λ fs. Says all.to.text fs) (sym (ap contents (removed_taken all.to.entries all.stage.entries)) ∙ taken) all.stage.says;
    }

abbrev whole_lines : List Noted → List ScriptLine
whole_lines ts = line.header live_header ∷ recorded_lines ts

reports_by : (ts : List Noted) (fs : List Filling) (l : Led ts fs) → length ts ≤ 100000 → Reports (script_of ts) (l.follows.said ++ end_text live_config 0 l.to)
reports_by ts fs l few =
    let end : List ScriptLine = line.end_of_script ∷ [] in
    let spelt : map spelling (whole_lines ts ++ end) ≡ map spelling (whole_lines ts) ++ map spelling end = map-append (whole_lines ts) end in
    let count : length (map spelling (whole_lines ts)) ≡ length (whole_lines ts) = length-map (whole_lines ts) spelling in
    let lines_few : length (recorded_lines ts) ≤ 7 + 9 * length ts = few_lines ts in
    record {
      lines = map spelling (whole_lines ts);
      last = spelling line.end_of_script;
      script_is = ap lines_text spelt;
      are = subst AreLines spelt (fit_lines (whole_lines ts ++ end) (is_header, all_append IsScriptLine (recorded_lines ts) end l.lines (tt, tt)));
      counted = omega (arith, few, count, lines_few);
      said = l.follows.said;
      now = running live_config nothing_kept l.to;
      runs = (
        running live_config nothing_kept opening,
        [],
        l.follows.said,
        record { config = live_header; read = spelled (line.header live_header) is_header; silent = refl; after = refl },
        l.follows.runs,
        refl,
      );
      last_said = end_text live_config 0 l.to;
      new = running live_config nothing_kept l.to;
      ends = record { in_place = refl; read = refl; said = refl; after = refl };
      report_is = refl;
    }

pub recorded_scripts_report : RecordedScriptsReport
recorded_scripts_report ts q few widths marked =
    let fs : List Filling = images (fills live_config.p (retired_from live_config first_state q)) in
    let l = led ts q widths marked in
    let report : List ℕ = l.follows.said ++ end_text live_config 0 l.to in
    let mine = reports_by ts fs l few in
    let said : Says l.follows.said fs = subst (λ t. Says t fs) l.follows.text l.says in
    let says : Says report fs = subst (λ gs. Says report gs) (append-nil fs)
    (says_both l.follows.said (end_text live_config 0 l.to) fs [] said (says_end live_config 0 l.to)) in
    record {
      report = report;
      reports = mine;
      takes = λ r replayed. subst (λ t. AreTakesOf (take_lines t) fs) (one_report (script_of ts) report r mine replayed) (takes_of report fs says);
    }
