-- The report of a script, and that of a recorded one.
use Rattle.std.specs.Prelude.{◌≡◌, ℕ, ◌+◌, ◌≤◌, List, [], ◌∷◌, ◌++◌, length}
use Rattle.std.specs.List.{AllByRecursion}
use Rattle.script_runs.specs.declared.ran.Ran.TheVariants.{Ended}
use Rattle.script_runs.specs.Runs.{RunsLines, lines_text, AreLines}
use Rattle.acquisition_machine.specs.Blocks.{fills}
use Rattle.acquisition_machine.specs.Machine.{Input}
use Rattle.acquisition_machine.specs.Runs.{first_state, retired_from}
use Rattle.script_trace.specs.Standing.{Standing, first, ReplayRuns}
use Rattle.acquisition_machine.specs.Erased.{images}
use Rattle.acquisition_machine.specs.Turns.{Noted}
use Rattle.gev_record.specs.Script.{live_config, script_of}
use Rattle.gev_record.specs.Marks.{IsMarkedRun, HasWidths}
use Rattle.gev_record.specs.TakeLines.{take_lines, AreTakesOf}

-- These bytes are a script: lines that are run one after the other, the last of them as the script's end. This is
-- what all of them report.
pub record Reports (script report : List ℕ) : Type 0 where
  pub lines : List (List ℕ)
  pub last : List ℕ
  pub script_is : script ≡ lines_text (lines ++ last ∷ [])
  pub are : AreLines (lines ++ last ∷ [])
  pub counted : length lines + 1 ≤ 4294967295
  pub said : List ℕ
  pub now : Standing
  pub runs : RunsLines ReplayRuns first 0 lines said now
  pub last_said : List ℕ
  pub new : Standing
  pub ends : ReplayRuns now (length lines + 1) last Ended last_said new
  pub report_is : report ≡ said ++ last_said

-- The recorded script has a report; and the take lines of each report that it has are those of what the recorded run
-- retired with buffers, whatever places its claims gave.
pub record ReportsRun (ts : List Noted) (q : List Input) : Type 0 where
  pub report : List ℕ
  pub reports : Reports (script_of ts) report
  pub takes : (r : List ℕ) → Reports (script_of ts) r → AreTakesOf (take_lines r) (images (fills live_config.p (retired_from live_config first_state q)))

-- so it is of each run of at most 100,000 turns whose marks tell what happened
abbrev pub RecordedScriptsReport : Type 0
RecordedScriptsReport =
    (ts : List Noted) (q : List Input) → length ts ≤ 100000 → AllByRecursion HasWidths ts → IsMarkedRun first_state ts q → ReportsRun ts q
