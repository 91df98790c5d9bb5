-- A captured script is a script.
use Rattle.std.proofs.Common.{◌≡◌, ℕ, suc, ◌+◌, ◌<◌, ◌≤◌, ◌==◌, List, [], ◌∷◌, ◌++◌, length, map, Bool, false, not, nat_eq, refl, ap, sym, subst, ◌∙◌, arith, append_assoc, le-ltb}
use Rattle.std.specs.Prelude.{Option, Some, None, Ok, if◌then◌else◌}
use Rattle.std.specs.List.{AllByRecursion}
use Rattle.std.proofs.lemmas.Bool.{not-true, ne_eqb}
use Rattle.std.proofs.lemmas.List.Sums.{AllPass-from_list_all}
use Rattle.std.proofs.lemmas.List.Splits.{slice_split_at}
use Rattle.gev_script.specs.declared.kind.ScriptKind.{ScriptKind}
use Rattle.gev_script.specs.declared.kind.ScriptKind.TheVariants as kinds
use Rattle.gev_script.specs.Lines as line
use Rattle.gev_script.specs.Lines.{ScriptLine}
use Rattle.gev_script.specs.Words.{parts_of}
use Rattle.gev_script.specs.Grammar.{line_of, line_of_words, name_of_words}
use Rattle.gev_script.specs.Spelling.{IsScriptLine, words_in, spelling}
use Rattle.gev_script.proofs.Spelled.{words_split, words_are}
use Rattle.script_runs.specs.Verdicts.{Verdict, goes_on, ends, whole, refused, judged, outcome_of, outcome}
use Rattle.script_trace.specs.Standing.{is_out_of_place, later_kind, later_verdict, last_or_not, first_verdict, kind_of_read, replay_verdict}
use Rattle.gev_capture.specs.Sightings as capture
use Rattle.gev_capture.specs.Sightings.{no_moments}
use Rattle.acquisition_machine.proofs.Order.{all_append}
use Rattle.capture_script.specs.Playing.{stopped}
use Rattle.capture_script.specs.Script.{Scripted, new_script, text_of, header_line, script_buffers, announce_lines, opening_lines, with_takes, closing_lines, lines_from, script_behind}
use Rattle.capture_script.specs.Laws.{PacketsMakeScripts}
use Rattle.capture_script.proofs.Sitting.{Sits, Goes, header_sits, announce_goes, flush_goes, start_goes, stop_goes, end_sits}
use Rattle.capture_script.proofs.Fitting.{AllGo, taking_goes, packets_go}

-- ---- what a spelled line is

pub read_is : (l : ScriptLine) → Sits l → line_of (spelling l) ≡ Ok l
read_is l sits = ap line_of_words (words_split l sits.is_line) ∙ words_are l sits.is_line

pub kind_none : (l : ScriptLine) → Sits l → is_out_of_place (name_of_words (words_in l)) ≡ false → later_kind (spelling l) ≡ None
kind_none l sits e =
    ap (λ (ws : List (List ℕ)). if is_out_of_place (name_of_words ws) then Some kinds.Word else kind_of_read (line_of (spelling l))) (words_split l sits.is_line)
    ∙ ap (λ (b : Bool). if b then Some kinds.Word else kind_of_read (line_of (spelling l))) e
    ∙ ap kind_of_read (read_is l sits)

later_is : (n : ℕ) (l : ScriptLine) → 1 ≤ n → Sits l → is_out_of_place (name_of_words (words_in l)) ≡ false → replay_verdict (n + 1) (spelling l) ≡ last_or_not (Ok l)
later_is n l later sits e =
    ap (λ (b : Bool). if b then first_verdict (line_of (spelling l)) else later_verdict (later_kind (spelling l)) (line_of (spelling l))) (ne_eqb (n + 1) 1 (λ s. omega (arith, later, s)))
    ∙ ap (λ (k : Option ScriptKind). later_verdict k (line_of (spelling l))) (kind_none l sits e)
    ∙ ap last_or_not (read_is l sits)

first_is : (p : ℕ) → Sits (header_line p) → replay_verdict 1 (spelling (header_line p)) ≡ goes_on
first_is p sits = ap first_verdict (read_is (header_line p) sits)

-- ---- the parts of the text

abbrev AllSit : List ScriptLine → Type 0
AllSit ls = AllByRecursion Sits ls

parts_are : (ls : List ScriptLine) → AllSit ls → parts_of 10 (text_of ls) ≡ map spelling ls ++ [] ∷ []
parts_are [] all = refl
parts_are (l ∷ ls) all =
    slice_split_at (λ b. nat_eq b 10) (spelling l) 10 (text_of ls) (λ k d lt. not-true _ (AllPass-from_list_all (λ b. not (nat_eq b 10)) (spelling l) all.0.no_feed k d lt)) refl
    ∙ ap (λ (ps : List (List ℕ)). spelling l ∷ ps) (parts_are ls all.1)

-- one line that isn't refused
one_more : (n : ℕ) (text next : List ℕ) (parts : List (List ℕ)) (verdict : Verdict) → length text ≤ 20000 → n < 4294967295 → replay_verdict (n + 1) text ≡ verdict
    → outcome_of replay_verdict n (text ∷ next ∷ parts) ≡ judged verdict (n + 1) (outcome_of replay_verdict (n + 1) (next ∷ parts))
one_more n text next parts verdict short few is =
    ap (λ (b : Bool). if b then refused (n + 1) kinds.Long else if n == 4294967295 then refused (n + 1) kinds.Many else judged (replay_verdict (n + 1) text) (n + 1) (outcome_of replay_verdict (n + 1) (next ∷ parts)))
    (le-ltb 20000 (length text) short)
    ∙ ap (λ (b : Bool). if b then refused (n + 1) kinds.Many else judged (replay_verdict (n + 1) text) (n + 1) (outcome_of replay_verdict (n + 1) (next ∷ parts)))
    (ne_eqb n 4294967295 (λ e. omega (arith, few, e)))
    ∙ ap (λ (v : Verdict). judged v (n + 1) (outcome_of replay_verdict (n + 1) (next ∷ parts))) is

going : (n : ℕ) (l : ScriptLine) → 1 ≤ n → Goes l → replay_verdict (n + 1) (spelling l) ≡ goes_on
going n l later goes = later_is n l later goes.sits goes.in_place ∙ goes.on

abbrev ended : List ScriptLine → List (List ℕ)
ended ls = map spelling (ls ++ line.end_of_script ∷ []) ++ [] ∷ []

whole_from : (n : ℕ) (ls : List ScriptLine) → 1 ≤ n → n + length ls < 4294967295 → AllGo ls → outcome_of replay_verdict n (ended ls) ≡ whole
whole_from n [] later few all = one_more n (spelling line.end_of_script) [] [] ends end_sits.short (omega (arith, few)) (later_is n line.end_of_script later end_sits refl)
whole_from n (l ∷ []) later few all =
    one_more n (spelling l) (spelling line.end_of_script) ([] ∷ []) goes_on all.0.sits.short (omega (arith, few)) (going n l later all.0)
    ∙ whole_from (n + 1) [] (omega arith) (omega (arith, few)) tt
whole_from n (l ∷ m ∷ ls) later few all =
    one_more n (spelling l) (spelling m) (ended ls) goes_on all.0.sits.short (omega (arith, few)) (going n l later all.0)
    ∙ whole_from (n + 1) (m ∷ ls) (omega arith) (omega (arith, few)) all.1

all_sit : (ls : List ScriptLine) → AllGo ls → AllSit ls
all_sit [] all = tt
all_sit (l ∷ ls) all = (all.0.sits, all_sit ls all.1)

all_lines : (ls : List ScriptLine) → AllSit ls → AllByRecursion IsScriptLine ls
all_lines [] all = tt
all_lines (l ∷ ls) all = (all.0.is_line, all_lines ls all.1)

-- ---- the whole script

-- the lines between header and end
abbrev pub between : ℕ → Scripted → List ScriptLine → List ScriptLine
between size last ls =
    announce_lines script_buffers size ++ line.flush 3 ∷ line.start ∷ (ls ++ with_takes (line.stop 0) (stopped last.p last.played))

pub between_goes : (size : ℕ) (last : Scripted) (ls : List ScriptLine) → size ≤ 67108864 → AllGo ls → AllGo (between size last ls)
between_goes size last ls small all =
    let one = announce_goes size small in
    (one, (one, (one, (one, (one, (flush_goes, (start_goes, all_append Goes ls (with_takes (line.stop 0) (stopped last.p last.played)) all (stop_goes, taking_goes (stopped last.p last.played).filled))))))))

pub lines_are : (p size : ℕ) (last : Scripted) (ls : List ScriptLine)
    → (opening_lines p size ++ ls) ++ closing_lines last
    ≡ header_line p ∷ (between size last ls ++ line.end_of_script ∷ [])
lines_are p size last ls =
    ap (λ (t : List ScriptLine). opening_lines p size ++ t)
    (sym (append_assoc ls (with_takes (line.stop 0) (stopped last.p last.played)) (line.end_of_script ∷ [])))

-- a header, lines that go on, and the end
script_is : (p : ℕ) (l : ScriptLine) (ls : List ScriptLine) → Sits (header_line p) → AllGo (l ∷ ls) → length (header_line p ∷ (l ∷ ls ++ line.end_of_script ∷ [])) ≤ 4294967295
    → outcome replay_verdict (text_of (header_line p ∷ (l ∷ ls ++ line.end_of_script ∷ []))) ≡ whole
script_is p l ls first all few =
    ap (outcome_of replay_verdict 0) (parts_are (header_line p ∷ (l ∷ ls ++ line.end_of_script ∷ [])) (first, all_append Sits (l ∷ ls) (line.end_of_script ∷ []) (all_sit (l ∷ ls) all) (end_sits, tt)))
    ∙ one_more 0 (spelling (header_line p)) (spelling l) (ended ls) goes_on first.short (omega arith) (first_is p first)
    ∙ whole_from 1 (l ∷ ls) (omega arith) (shorter ls few) all
  where
    end_more : (ls : List ScriptLine) → length (ls ++ line.end_of_script ∷ []) ≡ length ls + 1
    end_more [] = refl
    end_more (l ∷ ls) = let e = end_more ls in omega (arith, e)

    shorter : (ls : List ScriptLine) → suc (suc (length (ls ++ line.end_of_script ∷ []))) ≤ 4294967295 → 1 + suc (length ls) < 4294967295
    shorter ls h = omega (arith, h, end_more ls)

pub packets_make_scripts : PacketsMakeScripts
packets_make_scripts port p size packets some fits small bytes =
    let s : Scripted = new_script port p size in
    let xs = capture.sighted no_moments packets in
    let last : Scripted = script_behind s xs in
    let ls : List ScriptLine = lines_from s xs in
    let first = header_sits p some fits in
    let all = between_goes size last ls small (packets_go no_moments packets s bytes) in
    let are = lines_are p size last ls in
    record {
      lines = subst (λ (t : List ScriptLine). AllByRecursion IsScriptLine t) (sym are)
          (first.is_line, all_append IsScriptLine (between size last ls) (line.end_of_script ∷ []) (all_lines (between size last ls) (all_sit (between size last ls) all)) (tt, tt));
      script = λ few. ap (λ (t : List ScriptLine). outcome replay_verdict (text_of t)) are
          ∙ script_is p (line.announce size) (announce_lines 4 size ++ line.flush 3 ∷ line.start ∷ (ls ++ with_takes (line.stop 0) (stopped last.p last.played))) first all
          (subst (λ (t : List ScriptLine). length t ≤ 4294967295) are few);
    }
