-- Lines of a camera script are judged by their numbers and bytes.
use Rattle.std.proofs.Common.{◌≡◌, ◌≢◌, ℕ, ◌+◌, ◌≤◌, List, refl, sym, ap, subst, ◌∙◌, arith}
use Rattle.std.specs.Prelude.{zero, suc, max, Ok, Err, if◌then◌else◌}
use Rattle.std.proofs.lemmas.Bool.{ne_eqb}
use Rattle.gev_script.specs.declared.kind.ScriptKind.{ScriptKind}
use Rattle.gev_script.specs.declared.kind.ScriptKind.TheVariants as kinds
use Rattle.gev_script.specs.Lines as line
use Rattle.gev_script.specs.Lines.{ScriptLine}
use Rattle.gev_script.specs.Words.{Read}
use Rattle.gev_script.specs.Grammar.{line_of}
use Rattle.script_runs.specs.declared.ran.Ran.TheVariants.{GoesOn, Ended}
use Rattle.script_runs.specs.Verdicts.{goes_on, ends, bad}
use Rattle.camera_replay.specs.Serving.{Serving, Part, local_peer, Does}
use Rattle.camera_replay.specs.Standing.{Standing, first, running, later_kind, first_verdict, last_or_not, later_verdict, camera_verdict, IsBehind, RunsLater, CameraRuns, CameraRefuses}
use Rattle.camera_replay.specs.Laws.{LinesAreJudged}
use Rattle.camera_machine.proofs.FrameCounts.{Counts, counts_looked, counts_commanded, counts_framed}

-- ---- few frames

few_more : (n : ℕ) (m : ℕ) → m ≤ n → m ≤ n + 1
few_more n m h = omega (arith, h)

few_does : (n : ℕ) (s : Serving) (l : ScriptLine) (part : Part) → Counts n s.camera → Does s l part → Counts (n + 1) part.serving.camera
few_does n s (line.tick moment) part h is =
    subst (λ (p : Part). Counts (n + 1) p.serving.camera) (sym is) (counts_looked (n + 1) s.camera (max s.moment moment) (few_more n s.camera.shelf.count h))
few_does n s (line.command port digits) part h (bytes, decoded, is) =
    subst (λ (p : Part). Counts (n + 1) p.serving.camera) (sym is)
    (counts_commanded (n + 1) s.camera (local_peer port) bytes s.moment (few_more n s.camera.shelf.count h))
few_does n s line.frame part h is = subst (λ (p : Part). Counts (n + 1) p.serving.camera) (sym is) (counts_framed s.camera n h)
few_does n s _ part h is = absurd is

behind_later : (n : ℕ) (s : Serving) (text report : List ℕ) (new : Standing) → IsBehind (running s) n → RunsLater s text report new → IsBehind new (n + 1)
behind_later n s text report new behind r = subst (λ m. IsBehind m (n + 1)) (sym r.after) (go n behind)
  where
    go : (n : ℕ) → s.camera.shelf.count + 1 ≤ n → IsBehind (running r.part.serving) (n + 1)
    go zero few = absurd (omega (arith, few))
    go (suc n) few =
        let less : s.camera.shelf.count ≤ n = omega (arith, few) in
        let more : r.part.serving.camera.shelf.count ≤ n + 1 = few_does n s r.says r.part less r.does in
        omega (arith, more)

-- ---- verdicts

other_line : (s : Serving) (l : ScriptLine) (part : Part) → Does s l part → last_or_not (Ok l) ≡ goes_on
other_line s line.end_of_script part d = absurd d
other_line s _ part d = refl

first_refused : (r : Read ScriptLine) → r ≢ Ok line.camera_header → first_verdict r ≡ bad kinds.Header
first_refused (Ok line.camera_header) other = absurd (other refl)
first_refused (Ok _) other = refl
first_refused (Err _) other = refl

verdict_first : (n : ℕ) (text : List ℕ) → n ≡ 0 → camera_verdict (n + 1) text ≡ first_verdict (line_of text)
verdict_first n text none = ap (λ k. camera_verdict (k + 1) text) none

verdict_later : (n : ℕ) (text : List ℕ) → 1 ≤ n → camera_verdict (n + 1) text ≡ later_verdict (later_kind text) (line_of text)
verdict_later n text some =
    let apart : n + 1 ≢ 1 = λ e. omega (arith, e, some) in
    ap (λ b. if b then first_verdict (line_of text) else later_verdict (later_kind text) (line_of text)) (ne_eqb (n + 1) 1 apart)

some_behind : (n m : ℕ) → m + 1 ≤ n → 1 ≤ n
some_behind n m h = omega (arith, h)

goes : (m new : Standing) (n : ℕ) (text report : List ℕ) → IsBehind m n → CameraRuns m (n + 1) text GoesOn report new → (camera_verdict (n + 1) text ≡ goes_on) × IsBehind new (n + 1)
goes first new n text report behind runs =
    let one : 1 ≤ n + 1 = omega arith in
    (verdict_first n text behind ∙ ap first_verdict runs.read, subst (λ m. IsBehind m (n + 1)) (sym runs.after) one)
goes (running s) new n text report behind runs = (
  verdict_later n text (some_behind n s.camera.shelf.count behind) ∙ (ap (λ k. later_verdict k (line_of text)) runs.in_place ∙ (ap last_or_not runs.read ∙ other_line s runs.says runs.part runs.does)),
  behind_later n s text report new behind runs,
)

ended : (m new : Standing) (n : ℕ) (text report : List ℕ) → IsBehind m n → CameraRuns m (n + 1) text Ended report new → camera_verdict (n + 1) text ≡ ends
ended first new n text report behind runs = absurd runs
ended (running s) new n text report behind runs =
    verdict_later n text (some_behind n s.camera.shelf.count behind) ∙ (ap (λ k. later_verdict k (line_of text)) runs.in_place ∙ ap last_or_not runs.read)

refused_so : (m : Standing) (n : ℕ) (text : List ℕ) (kind : ScriptKind) → IsBehind m n → CameraRefuses m (n + 1) text kind → camera_verdict (n + 1) text ≡ bad kind
refused_so first n text kind behind (is, other) = verdict_first n text behind ∙ (first_refused (line_of text) other ∙ ap bad (sym is))
refused_so (running s) n text kind behind is =
    verdict_later n text (some_behind n s.camera.shelf.count behind) ∙ ap (λ k. later_verdict k (line_of text)) is

pub lines_judged : LinesAreJudged
lines_judged = record { goes = goes; ended = ended; refused_so = refused_so }
