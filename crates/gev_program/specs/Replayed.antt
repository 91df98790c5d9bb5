-- A replay by the headline, in the words of a live run.
use Rattle.std.specs.Prelude.{ℕ, List, Option}
use Rattle.script_trace.specs.Standing as replay
use Rattle.script_trace.specs.Laws.{HasSaid}
use Rattle.live_promises.specs.HeadlineLaws.{StandsByHeadline}
use Rattle.gev_status.specs.declared.status.Status.{Status}
use Rattle.gev_top.specs.Scripts.{Ends, IfEnded}

-- Behind each line the trace of a replay keeps the headline, with the acquisition of the script as its only acquirer.
abbrev pub ReplaysByHeadline : Status → Option (List ℕ) → Option (List ℕ) → ℕ → ℕ → Option (List ℕ) → Option (List ℕ) → ℕ → ℕ → Type 0
ReplaysByHeadline status left left_after reads reads_after written written_after writes writes_after =
    IfEnded
    (λ ending. Ends replay.ReplayRuns replay.ReplayRefuses StandsByHeadline HasSaid replay.first ending left left_after reads reads_after written written_after writes writes_after)
    status
