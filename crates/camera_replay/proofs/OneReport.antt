-- A camera script has one report.
use Rattle.std.proofs.Common.{◌≡◌, ℕ, ◌+◌, List, [], ◌∷◌, ◌++◌, refl, sym, ap, subst, ◌∙◌}
use Rattle.std.specs.Prelude.{Ok}
use Rattle.gev_script.specs.Lines as line
use Rattle.gev_script.specs.Lines.{ScriptLine}
use Rattle.script_runs.specs.declared.ran.Ran.{Ran}
use Rattle.script_runs.specs.declared.ran.Ran.TheVariants.{GoesOn, Ended}
use Rattle.script_runs.specs.Runs.{RunsLines}
use Rattle.camera_replay.specs.Serving.{Serving, Part, with_command, Does}
use Rattle.camera_replay.specs.Standing.{Standing, first, running, RunsFirst, RunsLater, RunsEnd, CameraRuns}
use Rattle.camera_replay.specs.Laws.{IsSame, ReportIsOne}

part_one : (s : Serving) (l : ScriptLine) (a b : Part) → Does s l a → Does s l b → a ≡ b
part_one s (line.tick moment) a b is also = is ∙ sym also
part_one s (line.command port digits) a b (bytes, decoded, is) (bytes_also, decoded_also, also) =
    let read : Ok bytes ≡ Ok bytes_also = sym decoded ∙ decoded_also in
    let same : bytes ≡ bytes_also = cc in
    is ∙ (ap (λ bs. with_command s port bs) same ∙ sym also)
part_one s line.frame a b is also = is ∙ sym also
part_one s _ a b is also = absurd is

firsts_agree : (text report report_also : List ℕ) (new new_also : Standing) → RunsFirst text report new → RunsFirst text report_also new_also → IsSame report report_also new new_also
firsts_agree text report report_also new new_also r s = record { text = r.silent ∙ sym s.silent; standing = r.after ∙ sym s.after }

laters_agree : (c : Serving) (text report report_also : List ℕ) (new new_also : Standing) → RunsLater c text report new → RunsLater c text report_also new_also → IsSame report report_also new new_also
laters_agree c text report report_also new new_also r s =
    let read : Ok r.says ≡ Ok s.says = sym r.read ∙ s.read in
    let same : s.says ≡ r.says = cc in
    let does : Does c r.says s.part = subst (λ l. Does c l s.part) same s.does in
    let part : r.part ≡ s.part = part_one c r.says r.part s.part r.does does in
    record {
      text = r.said ∙ (ap (λ (p : Part). p.text) part ∙ sym s.said);
      standing = r.after ∙ (ap (λ (p : Part). running p.serving) part ∙ sym s.after);
    }

ends_agree : (c : Serving) (text report report_also : List ℕ) (new new_also : Standing) → RunsEnd c text report new → RunsEnd c text report_also new_also → IsSame report report_also new new_also
ends_agree c text report report_also new new_also r s = record { text = r.said ∙ sym s.said; standing = r.after ∙ sym s.after }

-- the last line does nothing
never_both : (c : Serving) (text report report_also : List ℕ) (new new_also : Standing) → RunsLater c text report new → RunsEnd c text report_also new_also → ⊥
never_both c text report report_also new new_also r s =
    let read : Ok r.says ≡ Ok line.end_of_script = sym r.read ∙ s.read in
    let same : r.says ≡ line.end_of_script = cc in
    let none : Does c line.end_of_script r.part = subst (λ l. Does c l r.part) same r.does in
    none

line_agrees : (m : Standing) (n : ℕ) (text : List ℕ) (ran ran_also : Ran) (report report_also : List ℕ) (new new_also : Standing) → CameraRuns m n text ran report new → CameraRuns m n text ran_also report_also new_also → (ran ≡ ran_also) × IsSame report report_also new new_also
line_agrees first n text GoesOn GoesOn report report_also new new_also r s = (refl, firsts_agree text report report_also new new_also r s)
line_agrees first n text GoesOn Ended report report_also new new_also r s = absurd s
line_agrees first n text Ended ran report report_also new new_also r s = absurd r
line_agrees (running c) n text GoesOn GoesOn report report_also new new_also r s = (refl, laters_agree c text report report_also new new_also r s)
line_agrees (running c) n text GoesOn Ended report report_also new new_also r s = absurd (never_both c text report report_also new new_also r s)
line_agrees (running c) n text Ended GoesOn report report_also new new_also r s = absurd (never_both c text report_also report new_also new s r)
line_agrees (running c) n text Ended Ended report report_also new new_also r s = (refl, ends_agree c text report report_also new new_also r s)

lines_agree : (m : Standing) (n : ℕ) (lines : List (List ℕ)) (text text_also : List ℕ) (new new_also : Standing) → RunsLines CameraRuns m n lines text new → RunsLines CameraRuns m n lines text_also new_also → IsSame text text_also new new_also
lines_agree m n [] text text_also new new_also (silent, is) (silent_also, is_also) = record { text = silent ∙ sym silent_also; standing = is ∙ sym is_also }
lines_agree m n (l ∷ lines) text text_also new new_also (mid, front, rest, runs, more, parts) (mid_also, front_also, rest_also, runs_also, more_also, parts_also) =
    let one = (line_agrees m (n + 1) l GoesOn GoesOn front front_also mid mid_also runs runs_also).1 in
    let moved : RunsLines CameraRuns mid (n + 1) lines rest_also new_also = subst (λ u. RunsLines CameraRuns u (n + 1) lines rest_also new_also) (sym one.standing) more_also in
    let later : IsSame rest rest_also new new_also = lines_agree mid (n + 1) lines rest rest_also new new_also more moved in
    record {
      text = parts ∙ (ap (λ u. u ++ rest) one.text ∙ (ap (λ u. front_also ++ u) later.text ∙ sym parts_also));
      standing = later.standing;
    }

pub report_one : ReportIsOne
report_one = record { lines_agree = lines_agree; line_agrees = line_agrees }
