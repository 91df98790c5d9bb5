-- Along every run of lines a script stands well.
use Rattle.std.proofs.Common.{◌≡◌, ℕ, ◌+◌, ◌≤◌, List, [], ◌∷◌, ◌++◌, length, refl, sym, ap, subst, ◌∙◌, append_assoc, append-nil, arith}
use Rattle.script_runs.specs.declared.ran.Ran.{Ran}
use Rattle.script_runs.specs.declared.ran.Ran.TheVariants.{GoesOn}
use Rattle.script_runs.specs.Runs.{Running, RunsLines, AreLines}
use Rattle.script_runs.specs.Outcomes.{RunsLast}
use Rattle.gev_top.specs.Scripts.{RunsWell}

-- However far a script was run from its start, with the last line that was run too, it stands well, and so much is said of
-- that line; and its report is what its state says.
pub record IsKept {M : Type 0} (runs more : Running M) (Keeps : M → Type 0) (Says : List ℕ → M → Type 0) (first : M) : Type 0 where
  pub so_far :
      (lines : List (List ℕ)) (text : List ℕ) (new : M) → AreLines lines
      → RunsLines runs first 0 lines text new → Keeps new
  pub last :
      (lines : List (List ℕ)) (text line report : List ℕ) (ran : Ran) (now new : M) → AreLines lines → length line ≤ 20000
      → RunsLines runs first 0 lines text now → runs now (length lines + 1) line ran report new → RunsWell more Keeps now (length lines + 1) line ran report new
  pub said :
      (lines : List (List ℕ)) (text : List ℕ) (new : M)
      → RunsLines runs first 0 lines text new → Says text new

-- the lines before, with one more
pub lines_more : {M : Type 0} (runs : Running M) (m mid new : M) (n k : ℕ) (lines : List (List ℕ)) (text line report : List ℕ) → n + length lines + 1 ≡ k
    → RunsLines runs m n lines text mid → runs mid k line GoesOn report new → RunsLines runs m n (lines ++ line ∷ []) (text ++ report) new
lines_more runs m mid new n k [] text line report at (silent, is) run =
    let on : n + 1 ≡ k = let a = at in omega (arith, a) in
    let here : runs m (n + 1) line GoesOn report new = subst (λ x. runs x (n + 1) line GoesOn report new) is (subst (λ j. runs mid j line GoesOn report new) (sym on) run) in
    (new, report, [], here, (refl, refl), ap (λ u. u ++ report) silent ∙ sym (append-nil report))
lines_more runs m mid new n k (l ∷ lines) text line report at (next, front, rest, one, more, parts) run =
    let on : n + 1 + length lines + 1 ≡ k = let a = at in omega (arith, a) in
    (next, front, rest ++ report, one, lines_more runs next mid new (n + 1) k lines rest line report on more run, ap (λ u. u ++ report) parts ∙ append_assoc front rest report)

are_more : (lines : List (List ℕ)) (line : List ℕ) → AreLines lines → AreLines (line ∷ []) → AreLines (lines ++ line ∷ [])
are_more [] line are one = one
are_more (l ∷ lines) line (no_feed, short, are) one = (no_feed, short, are_more lines line are one)

length_more : (lines : List (List ℕ)) (line : List ℕ) → length (lines ++ line ∷ []) ≡ length lines + 1
length_more [] line = refl
length_more (l ∷ lines) line = let h : length (lines ++ line ∷ []) ≡ length lines + 1 = length_more lines line in omega (arith, h)

-- The lines before lead from the start to m, and so the others are run well from there.
well_from : {M : Type 0} (runs more : Running M) (Keeps : M → Type 0) (Says : List ℕ → M → Type 0) (first : M) → IsKept runs more Keeps Says first
    → (before : List (List ℕ)) (said : List ℕ) (m : M) → AreLines before → RunsLines runs first 0 before said m
    → (n : ℕ) → length before ≡ n → (lines : List (List ℕ)) (text : List ℕ) (new : M) → AreLines lines → RunsLines runs m n lines text new → RunsLines (RunsWell more Keeps) m n lines text new
well_from runs more Keeps Says first kept before said m are led n at [] text new rest_are run = run
well_from runs more Keeps Says first kept before said m are led n at (line ∷ lines) text new (no_feed, short, rest_are) (mid, front, rest, one, later, parts) =
    let here : runs m (length before + 1) line GoesOn front mid = subst (λ k. runs m (k + 1) line GoesOn front mid) (sym at) one in
    let well : RunsWell more Keeps m (length before + 1) line GoesOn front mid = kept.last before said line front GoesOn m mid are short led here in
    let from : 0 + length before + 1 ≡ length before + 1 = omega arith in
    let led_more : RunsLines runs first 0 (before ++ line ∷ []) (said ++ front) mid = lines_more runs first m mid 0 (length before + 1) before said line front from led here in
    let at_more : length (before ++ line ∷ []) ≡ n + 1 = length_more before line ∙ ap (λ k. k + 1) at in (
      mid,
      front,
      rest,
      subst (λ k. RunsWell more Keeps m (k + 1) line GoesOn front mid) at well,
      well_from runs more Keeps Says first kept (before ++ line ∷ []) (said ++ front) mid (are_more before line are (no_feed, short, tt)) led_more (n + 1) at_more lines rest new rest_are later,
      parts,
    )

pub lines_well : {M : Type 0} (runs more : Running M) (Keeps : M → Type 0) (Says : List ℕ → M → Type 0) (first : M) → IsKept runs more Keeps Says first
    → (lines : List (List ℕ)) (text : List ℕ) (new : M) → AreLines lines → RunsLines runs first 0 lines text new → RunsLines (RunsWell more Keeps) first 0 lines text new
lines_well runs more Keeps Says first kept lines text new are run = well_from runs more Keeps Says first kept [] [] first tt (refl, refl) 0 refl lines text new are run

pub last_well : {M : Type 0} (runs more : Running M) (Keeps : M → Type 0) (Says : List ℕ → M → Type 0) (first : M) → IsKept runs more Keeps Says first
    → (lines : List (List ℕ)) (text : List ℕ) (now : M) (ran : Ran) (rest : List ℕ) (P : List ℕ → Type 0) → AreLines lines
    → RunsLines runs first 0 lines text now → RunsLast runs now (length lines) ran rest P → RunsLast (RunsWell more Keeps) now (length lines) ran rest P
last_well runs more Keeps Says first kept lines text now ran rest P are led h = record {
  line = h.line;
  held = h.held;
  final = h.final;
  report = h.report;
  is_line = h.is_line;
  counted = h.counted;
  run = kept.last lines text h.line h.report ran now h.final are h.is_line.short led h.run;
  holds = h.holds;
}
