-- One turn of the loop.
use Rattle.std.specs.Prelude.{◌≡◌, ℕ, ◌+◌, ◌≤◌, List, Option, Some, None}
use Rattle.gev_links.specs.Told.{Appends}
use Rattle.gev_script.specs.declared.kind.ScriptKind.TheVariants as kinds
use Rattle.gev_script.specs.declared.line_end.LineEnd.{LineEnd}
use Rattle.gev_script.specs.declared.line_end.LineEnd.TheVariants as ends
use Rattle.gev_script.specs.Streams.{LinesState, IsLine, ReadsOn}
use Rattle.script_runs.specs.declared.ran.Ran.TheVariants.{GoesOn}
use Rattle.script_runs.specs.declared.ending.Ending.{Ending}
use Rattle.script_runs.specs.declared.ending.Ending.TheVariants.{BadLine, ReadFault}
use Rattle.script_runs.specs.Runs.{Running, Refusing}
use Rattle.script_runs.specs.Outcomes.{EndsAt}

-- the ending of a script whose next line, the one after n others, can't be read
abbrev pub ending_of : ℕ → LineEnd → Ending
ending_of n ends.Long = BadLine (n + 1) kinds.Long
ending_of n ends.NoEnd = BadLine (n + 1) kinds.NoEnd
ending_of n ends.Many = BadLine (n + 1) kinds.Many
ending_of n ends.ReadFault = ReadFault

-- The line after n others was run, its report written, and the script goes on.
pub record GoesOnFrom {M : Type 0} (runs : Running M) (m new : M) (n : ℕ) (line : List ℕ) (written written_after : Option (List ℕ)) : Type 0 where
  pub report : List ℕ
  pub run : runs m (n + 1) line GoesOn report new
  pub appended : Appends written written_after report

-- one turn: the script goes on, or ends so
abbrev pub Turn : {M : Type 0} → Running M → Refusing M → Option Ending → M → M → LinesState → LinesState → Option (List ℕ) → Option (List ℕ) → ℕ → ℕ → Option (List ℕ) → Option (List ℕ) → ℕ → ℕ → Type 0
Turn runs refuses None m new lines lines_after left left_after reads reads_after written written_after writes writes_after =
    (lines_after.given ≡ lines.given + 1) × (lines_after.given ≤ 4294967295) × (lines_after.refusal ≡ None)
    × ReadsOn lines.held left left_after (λ bytes. IsLine bytes lines_after.line lines_after.held)
    × GoesOnFrom runs m new lines.given lines_after.line written written_after
Turn runs refuses (Some ending) m new lines lines_after left left_after reads reads_after written written_after writes writes_after =
    ReadsOn lines.held left left_after
    (λ rest. EndsAt runs refuses m lines.given rest ending left_after reads reads_after writes writes_after (Appends written written_after))
