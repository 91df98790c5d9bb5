use Rattle.std.proofs.Common.{◌≡◌, Option, None, refl, sym, subst}
use Rattle.script_trace.specs.Explaining.{untold}
use Rattle.script_explain.specs.declared.explained.Explained.{Explained}
use Rattle.script_explain.specs.Explains.{StandsFor}
use Rattle.gev_top.proofs.ExplainedRuns.{explains, explain_unbegun}
use Rattle.gev_top.proofs.scripts.explain.Goals as goal

-- a new machine stands before the first line
stands : (machine : Option Explained) → machine ≡ None → StandsFor machine untold
stands machine is = subst (λ m. StandsFor m untold) (sym is) refl

pub returns-in-Ok-clause-cause : goal.returns-in-Ok-clause-cause
returns-in-Ok-clause-cause g c =
    explains c.run.result
    (g.S.Source.left c.args.source.now) (g.S.Source.left c.run.new.source)
    (g.S.Source.faults c.args.source.now) (g.S.Source.faults c.run.new.source)
    (g.K.Sink.written c.args.sink.now) (g.K.Sink.written c.run.new.sink)
    (g.K.Sink.faults c.args.sink.now) (g.K.Sink.faults c.run.new.sink)
    (c.run.ensures.ends untold (stands c.in-Ok.machine (c.in-Ok.ensures {u = tt})))

pub returns-in-Ok-clause-exact : goal.returns-in-Ok-clause-exact
returns-in-Ok-clause-exact g c = c.run.ensures.exact untold (stands c.in-Ok.machine (c.in-Ok.ensures {u = tt})) refl

pub returns-in-Err-clause-cause : goal.returns-in-Err-clause-cause
returns-in-Err-clause-cause g c =
    explain_unbegun (g.S.Source.left c.args.source.now) (g.S.Source.faults c.args.source.now) (g.K.Sink.written c.args.sink.now) (g.K.Sink.faults c.args.sink.now)
