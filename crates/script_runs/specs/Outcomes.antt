-- What a run of a script has read and written, by how it ended.
use Rattle.std.specs.Prelude.{◌≡◌, ◌≢◌, ◌⊎◌, ℕ, ◌+◌, ◌≤◌, List, [], ◌++◌, Option}
use Rattle.gev_links.specs.Faults.{Rose}
use Rattle.gev_links.specs.Told.{IsSpent, Appends}
use Rattle.gev_script.specs.declared.kind.ScriptKind.{ScriptKind}
use Rattle.gev_script.specs.declared.kind.ScriptKind.TheVariants as kinds
use Rattle.gev_script.specs.Streams.{IsOpen, IsLong, IsLine}
use Rattle.script_runs.specs.declared.ran.Ran.{Ran}
use Rattle.script_runs.specs.declared.ran.Ran.TheVariants.{Ended}
use Rattle.script_runs.specs.declared.ending.Ending.{Ending}
use Rattle.script_runs.specs.declared.ending.Ending.TheVariants.{Done, BadLine, ReadFault, WriteFault, NoMemory}
use Rattle.script_runs.specs.Runs.{Running, Refusing, RunTo}

-- The bytes begin with a line, the one after n others, which is run with a report of which P holds. What is
-- held was read behind it.
pub record RunsLast {M : Type 0} (runs : Running M) (now : M) (n : ℕ) (ran : Ran) (rest : List ℕ) (P : List ℕ → Type 0) : Type 0 where
  pub line : List ℕ
  pub held : List ℕ
  pub final : M
  pub report : List ℕ
  pub is_line : IsLine rest line held
  pub counted : n + 1 ≤ 4294967295
  pub run : runs now (n + 1) line ran report final
  pub holds : P report

-- The bytes have no whole line, and are refused for this cause.
abbrev pub RefusesUnread : ScriptKind → List ℕ → Option (List ℕ) → Type 0
RefusesUnread kinds.Long rest left = IsLong rest
RefusesUnread kinds.NoEnd rest left = IsOpen rest × IsSpent left
RefusesUnread kinds.Many rest left = ⊥
RefusesUnread kinds.Header rest left = ⊥
RefusesUnread kinds.Word rest left = ⊥
RefusesUnread kinds.Number rest left = ⊥
RefusesUnread kinds.Hex rest left = ⊥

-- The bytes begin with a line, the one after n others, which is refused for this cause.
pub record RefusesLine {M : Type 0} (refuses : Refusing M) (now : M) (n : ℕ) (rest : List ℕ) (kind : ScriptKind) : Type 0 where
  pub line : List ℕ
  pub held : List ℕ
  pub is_line : IsLine rest line held
  pub refused : ((kind ≡ kinds.Many) × (n ≡ 4294967295)) ⊎ ((n + 1 ≤ 4294967295) × refuses now (n + 1) line kind)

-- Of a report this front was written, and something of it wasn't.
pub record WroteFront (Wrote : List ℕ → Type 0) (report : List ℕ) : Type 0 where
  pub front : List ℕ
  pub more : List ℕ
  pub parts : report ≡ front ++ more
  pub some_left : more ≢ []
  pub wrote : Wrote front

-- Behind n lines the run ends so, with these bytes read behind them; `Wrote` says of a text that it was
-- written since.
abbrev pub EndsAt : {M : Type 0} → Running M → Refusing M → M → ℕ → List ℕ → Ending → Option (List ℕ) → ℕ → ℕ → ℕ → ℕ → (List ℕ → Type 0) → Type 0
EndsAt runs refuses now n rest Done left reads reads_after writes writes_after Wrote =
    RunsLast runs now n Ended rest Wrote
EndsAt runs refuses now n rest (BadLine line kind) left reads reads_after writes writes_after Wrote =
    (line ≡ n + 1) × (RefusesUnread kind rest left ⊎ RefusesLine refuses now n rest kind) × Wrote []
EndsAt runs refuses now n rest ReadFault left reads reads_after writes writes_after Wrote =
    Rose reads reads_after × IsOpen rest × Wrote []
EndsAt runs refuses now n rest WriteFault left reads reads_after writes writes_after Wrote =
    Rose writes writes_after × ((ran : Ran) × RunsLast runs now n ran rest (WroteFront Wrote))
EndsAt runs refuses now n rest NoMemory left reads reads_after writes writes_after Wrote = Wrote []

-- what a run of a script has read and written, by how it ended
abbrev pub RunEnds : {M : Type 0} → Running M → Refusing M → M → Ending → Option (List ℕ) → Option (List ℕ) → ℕ → ℕ → Option (List ℕ) → Option (List ℕ) → ℕ → ℕ → Type 0
RunEnds runs refuses m ending left left_after reads reads_after written written_after writes writes_after =
    RunTo runs m left left_after
    (λ now n rest text.
    EndsAt runs refuses now n rest ending left_after reads reads_after writes writes_after
    (λ report. Appends written written_after (text ++ report)))
