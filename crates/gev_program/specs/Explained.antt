-- An explanation by the headline, in the words of a live run.
use Rattle.std.specs.Prelude.{ℕ, List, Option}
use Rattle.script_trace.specs.Explaining.{Telling, untold, ExplainRefuses}
use Rattle.live_promises.specs.HeadlineLaws.{StandsByHeadline}
use Rattle.gev_status.specs.declared.status.Status.{Status}
use Rattle.gev_top.specs.Scripts.{Ends, IfEnded}
use Rattle.gev_top.specs.Explained.{ExplainsLine, HasTold}

-- Behind each line the trace of an explained script keeps the headline.
abbrev pub StandsByNotes : Telling → Type 0
StandsByNotes m = StandsByHeadline m.standing

abbrev pub ExplainsByHeadline : Status → Option (List ℕ) → Option (List ℕ) → ℕ → ℕ → Option (List ℕ) → Option (List ℕ) → ℕ → ℕ → Type 0
ExplainsByHeadline status left left_after reads reads_after written written_after writes writes_after =
    IfEnded
    (λ ending. Ends ExplainsLine ExplainRefuses StandsByNotes HasTold untold ending left left_after reads reads_after written written_after writes writes_after)
    status
