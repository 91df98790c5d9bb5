-- Runs of lines by a machine, whose states are of some type.
use Rattle.std.specs.Prelude.{◌≡◌, ⊤, ℕ, ◌+◌, ◌≤◌, List, [], ◌∷◌, ◌++◌, length, Option}
use Rattle.gev_script.specs.declared.kind.ScriptKind.{ScriptKind}
use Rattle.gev_script.specs.Streams.{HasNoFeed}
use Rattle.gev_links.specs.Told.{Gives}
use Rattle.script_runs.specs.declared.ran.Ran.{Ran}
use Rattle.script_runs.specs.declared.ran.Ran.TheVariants.{GoesOn}
use Rattle.script_runs.specs.declared.stop.Stop.{Stop}
use Rattle.script_runs.specs.declared.stop.Stop.TheVariants as stops

-- P of the cause for which a line was refused
abbrev pub IfRefused : Stop → (ScriptKind → Type 0) → Type 0
IfRefused (stops.Refused kind) P = P kind
IfRefused stops.NoMemory P = ⊤

-- From one state the line with this number is run, goes on or ends the script, with this report, to
-- another state.
abbrev pub Running : Type 0 → Type 1
Running M = M → ℕ → List ℕ → Ran → List ℕ → M → Type 0

-- In this state the line with this number is refused for this cause.
abbrev pub Refusing : Type 0 → Type 1
Refusing M = M → ℕ → List ℕ → ScriptKind → Type 0

-- From one state these lines, of which n others stand before the first, are run with this report, and
-- the script goes on from another state.
abbrev pub RunsLines : {M : Type 0} → Running M → M → ℕ → List (List ℕ) → List ℕ → M → Type 0
RunsLines runs m n [] text new = (text ≡ []) × (new ≡ m)
RunsLines {M} runs m n (line ∷ lines) text new =
    (mid : M) × (front : List ℕ) × (rest : List ℕ)
    × runs m (n + 1) line GoesOn front mid × RunsLines runs mid (n + 1) lines rest new × (text ≡ front ++ rest)

-- the bytes of lines, each with its line feed
abbrev pub lines_text : List (List ℕ) → List ℕ
lines_text [] = []
lines_text (line ∷ lines) = line ++ 10 ∷ lines_text lines

-- no line has a line feed in it, or more than 20,000 bytes
abbrev pub AreLines : List (List ℕ) → Type 0
AreLines [] = ⊤
AreLines (line ∷ lines) = HasNoFeed line × (length line ≤ 20000) × AreLines lines

-- A script was run over lines that go on, a bounded number of bytes was read behind them, and this holds of
-- the state then, the number of the lines, these bytes, and the report of the lines.
pub record RunTo {M : Type 0} (runs : Running M) (m : M) (left left_after : Option (List ℕ)) (P : M → ℕ → List ℕ → List ℕ → Type 0) : Type 0 where
  pub now : M
  pub lines : List (List ℕ)
  pub rest : List ℕ
  pub text : List ℕ
  pub given : Gives left left_after (lines_text lines ++ rest)
  pub are : AreLines lines
  pub counted : length lines ≤ 4294967295
  pub few : length rest ≤ 32768
  pub ran : RunsLines runs m 0 lines text now
  pub holds : P now (length lines) rest text
