-- What an explained script has read and written by its answer.
use Rattle.std.specs.Prelude.{⊤, ℕ, List, Option}
use Rattle.script_runs.specs.declared.ran.Ran.{Ran}
use Rattle.script_runs.specs.declared.ending.Ending.{Ending}
use Rattle.script_trace.specs.Standing.{Standing, running}
use Rattle.script_trace.specs.Standing.{first as at_first}
use Rattle.script_trace.specs.Laws.{StandsWell, HasSaid}
use Rattle.script_trace.specs.Notes.{Note}
use Rattle.script_trace.specs.NoteLines.{LeavesOut}
use Rattle.script_trace.specs.Explaining.{Telling, untold, ExplainRuns, ExplainRefuses}
use Rattle.script_trace.specs.NoteLaws.{KeepsAccount, HoldsReport, HoldsLast}
use Rattle.gev_status.specs.declared.status.Status.{Status}
use Rattle.gev_top.specs.Scripts.{Ends, IfEnded}

-- The line is run with this text, and by a replay too: its report is the text without the notes.
pub record ExplainsLine (m : Telling) (n : ℕ) (line : List ℕ) (ran : Ran) (told : List ℕ) (new : Telling) : Type 0 where
  pub explains : ExplainRuns m n line ran told new
  pub holds : HoldsLast m n line ran told new

-- what the notes so far account for; before the header there is nothing
abbrev pub StandsAccounted : List Note → List Note → Standing → Type 0
StandsAccounted notes since at_first = ⊤
StandsAccounted notes since (running c w t) = KeepsAccount c w t notes since

-- The trace keeps the promises of a replay. The notes account for each datagram, each block, each opened block, each
-- fill and each drop, and tell the end of each block that retired.
pub record StandsExplained (m : Telling) : Type 0 where
  pub well : StandsWell m.standing
  pub account : StandsAccounted m.notes m.since m.standing

-- What was told without the notes is the report so far.
pub record HasTold (told : List ℕ) (m : Telling) : Type 0 where
  pub said : List ℕ
  pub leaves : LeavesOut told said
  pub has : HasSaid said m.standing

-- An explained script: behind each line it stands so, and a replay runs its lines with the report that is left of
-- what was told where the notes are left out.
pub record EndsExplained (ending : Ending) (left left_after : Option (List ℕ)) (reads reads_after : ℕ) (written written_after : Option (List ℕ)) (writes writes_after : ℕ) : Type 0 where
  pub run : Ends ExplainsLine ExplainRefuses StandsExplained HasTold untold ending left left_after reads reads_after written written_after writes writes_after
  pub report : HoldsReport run.lines run.text run.now

abbrev pub Explains : Status → Option (List ℕ) → Option (List ℕ) → ℕ → ℕ → Option (List ℕ) → Option (List ℕ) → ℕ → ℕ → Type 0
Explains status left left_after reads reads_after written written_after writes writes_after =
    IfEnded (λ ending. EndsExplained ending left left_after reads reads_after written written_after writes writes_after) status
