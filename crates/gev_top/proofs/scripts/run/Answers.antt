-- What a run of a script is known by its ending it is known by its answer.
use Rattle.std.proofs.Common.{◌≡◌, ℕ, List, Option, Some, None, sym, ap, subst, ◌∙◌}
use Rattle.script_runs.specs.declared.ending.Ending.{Ending}
use Rattle.script_runs.specs.declared.ending.Ending.TheVariants as endings
use Rattle.script_runs.specs.Outcomes.{RunEnds}
use Rattle.script_runs.specs.Verdicts.{Outcome, whole, refused, IfTold}
use Rattle.script_runs.specs.Verdicts as verdicts
use Rattle.gev_status.specs.declared.status.Status.{Status}
use Rattle.gev_top.specs.Scripts.{status_of, IfEnded, AnswersContent}
use Rattle.gev_top.proofs.scripts.run.Goals as goal

ended : (P : Ending → Type 0) (ending : Ending) → P ending → IfEnded P (status_of ending)
ended P endings.Done holds = holds
ended P (endings.BadLine line kind) holds = holds
ended P endings.ReadFault holds = holds
ended P endings.WriteFault holds = holds
ended P endings.NoMemory holds = holds

if_ended : (P : Ending → Type 0) (ending : Ending) (status : Status) → status ≡ status_of ending → P ending → IfEnded P status
if_ended P ending status is holds = subst (IfEnded P) (sym is) (ended P ending holds)

answers : (ending : Ending) (found : Outcome) → verdicts.AnswersContent ending found → AnswersContent (status_of ending) found
answers endings.Done whole holds = holds
answers endings.Done (refused n cause) holds = holds
answers (endings.BadLine line kind) whole holds = holds
answers (endings.BadLine line kind) (refused n cause) holds = holds
answers endings.ReadFault found holds = tt
answers endings.WriteFault found holds = tt
answers endings.NoMemory found holds = tt

if_told : (left : Option (List ℕ)) (found : List ℕ → Outcome) (ending : Ending) (status : Status) → status ≡ status_of ending
    → IfTold left (λ content. verdicts.AnswersContent ending (found content)) → IfTold left (λ content. AnswersContent status (found content))
if_told None found ending status is holds = tt
if_told (Some content) found ending status is holds = subst (λ (s : Status). AnswersContent s (found content)) (sym is) (answers ending (found content) holds)

pub returns-clause-ends : goal.returns-clause-ends
returns-clause-ends g c =
    λ m stands.
    if_ended
    (λ ending. RunEnds g.M.Modelled.plain_runs g.M.Modelled.plain_refuses m ending
    (g.S.Source.left c.args.source.now) (g.S.Source.left c.run_modelled.new.source) (g.S.Source.faults c.args.source.now) (g.S.Source.faults c.run_modelled.new.source)
    (g.K.Sink.written c.args.sink.now) (g.K.Sink.written c.run_modelled.new.sink) (g.K.Sink.faults c.args.sink.now) (g.K.Sink.faults c.run_modelled.new.sink))
    c.run_modelled.result c.status_of.result c.status_of.ensures (c.run_modelled.ensures.ends m stands)

pub returns-clause-exact : goal.returns-clause-exact
returns-clause-exact g c = λ m stands behind. if_told _ _ c.run_modelled.result c.status_of.result c.status_of.ensures (c.run_modelled.ensures.exact m stands behind)

pub returns-clause-reads_steady : goal.returns-clause-reads_steady
returns-clause-reads_steady g c = λ steady. c.run_modelled.ensures.reads_steady (λ is. steady (c.status_of.ensures ∙ ap status_of is))

pub returns-clause-writes_steady : goal.returns-clause-writes_steady
returns-clause-writes_steady g c = λ steady. c.run_modelled.ensures.writes_steady (λ is. steady (c.status_of.ensures ∙ ap status_of is))
