-- A replay or an explanation that keeps its promises keeps the headline.
use Rattle.std.proofs.Common.{◌≡◌, ℕ, List, Option, subst}
use Rattle.script_trace.specs.Standing.{Standing, first, running, ReplayRuns, ReplayRefuses}
use Rattle.script_trace.specs.Laws.{StandsWell, HasSaid}
use Rattle.script_trace.specs.Explaining.{untold, ExplainRefuses}
use Rattle.live_promises.specs.HeadlineLaws.{StandsByHeadline}
use Rattle.live_promises.proofs.Headlines.{traces_headline}
use Rattle.gev_status.specs.declared.status.Status.{Status}
use Rattle.gev_top.specs.Scripts.{Ends}
use Rattle.gev_top.specs.declared.command.Command.{Command}
use Rattle.gev_top.specs.declared.command.Command.TheVariants.{Replay, Explain}
use Rattle.gev_top.specs.Answers.{Replays, Answers}
use Rattle.gev_top.specs.Explained.{ExplainsLine, StandsExplained, HasTold, EndsExplained, Explains}
use Rattle.gev_top.proofs.Endings.{if_ended}
use Rattle.gev_top.proofs.Bettering.{ends_better}
use Rattle.gev_program.specs.Replayed.{ReplaysByHeadline}
use Rattle.gev_program.specs.Explained.{StandsByNotes, ExplainsByHeadline}

stands : (m : Standing) → StandsWell m → StandsByHeadline m
stands first well = tt
stands (running c w t) well = traces_headline c t well

by_headline : (status : Status) (left left_after : Option (List ℕ)) (reads reads_after : ℕ) (written written_after : Option (List ℕ)) (writes writes_after : ℕ)
    → Replays status left left_after reads reads_after written written_after writes writes_after → ReplaysByHeadline status left left_after reads reads_after written written_after writes writes_after
by_headline status left left_after reads reads_after written written_after writes writes_after =
    if_ended
    (λ ending. Ends ReplayRuns ReplayRefuses StandsWell HasSaid first ending left left_after reads reads_after written written_after writes writes_after)
    (λ ending. Ends ReplayRuns ReplayRefuses StandsByHeadline HasSaid first ending left left_after reads reads_after written written_after writes writes_after)
    (λ ending.
    ends_better ReplayRuns ReplayRuns StandsWell StandsByHeadline HasSaid HasSaid
    (record { line = λ m n line ran report new runs. runs; keeps = stands; says = λ text m says. says })
    ReplayRefuses first ending left left_after reads reads_after written written_after writes writes_after)
    status

explains_by_headline : (status : Status) (left left_after : Option (List ℕ)) (reads reads_after : ℕ) (written written_after : Option (List ℕ)) (writes writes_after : ℕ)
    → Explains status left left_after reads reads_after written written_after writes writes_after → ExplainsByHeadline status left left_after reads reads_after written written_after writes writes_after
explains_by_headline status left left_after reads reads_after written written_after writes writes_after =
    if_ended
    (λ ending. EndsExplained ending left left_after reads reads_after written written_after writes writes_after)
    (λ ending. Ends ExplainsLine ExplainRefuses StandsByNotes HasTold untold ending left left_after reads reads_after written written_after writes writes_after)
    (λ ending to.
    ends_better ExplainsLine ExplainsLine StandsExplained StandsByNotes HasTold HasTold
    (record { line = λ m n line ran report new runs. runs; keeps = λ m keeps. stands m.standing keeps.well; says = λ text m says. says })
    ExplainRefuses untold ending left left_after reads reads_after written written_after writes writes_after to.run)
    status

-- the same of a command that is a replay
pub replay_headline : (command : Command) (status : Status) (left left_after : Option (List ℕ)) (reads reads_after : ℕ) (written written_after : Option (List ℕ)) (writes writes_after : ℕ)
    → command ≡ Replay → Answers command status left left_after reads reads_after written written_after writes writes_after
    → ReplaysByHeadline status left left_after reads reads_after written written_after writes writes_after
replay_headline command status left left_after reads reads_after written written_after writes writes_after is answers =
    by_headline status left left_after reads reads_after written written_after writes writes_after
    (subst (λ (x : Command). Answers x status left left_after reads reads_after written written_after writes writes_after) is answers)

-- or an explanation
pub explain_headline : (command : Command) (status : Status) (left left_after : Option (List ℕ)) (reads reads_after : ℕ) (written written_after : Option (List ℕ)) (writes writes_after : ℕ)
    → command ≡ Explain → Answers command status left left_after reads reads_after written written_after writes writes_after
    → ExplainsByHeadline status left left_after reads reads_after written written_after writes writes_after
explain_headline command status left left_after reads reads_after written written_after writes writes_after is answers =
    explains_by_headline status left left_after reads reads_after written written_after writes writes_after
    (subst (λ (x : Command). Answers x status left left_after reads reads_after written written_after writes writes_after) is answers)
