use Rattle.std.proofs.Common.{refl, sym, subst}
use Rattle.script_runs.specs.Verdicts.{IfTold}
use Rattle.gev_top.specs.Answers.{Answers, IsDecided}
use Rattle.gev_top.proofs.plain.run_command.Goals as goal

pub returns-in-Make-clause-cause : goal.returns-in-Make-clause-cause
returns-in-Make-clause-cause g c =
    subst
    (λ command. Answers command c.make_script.result
    (g.S.Source.left c.args.source.now) (g.S.Source.left c.args.source.now)
    (g.S.Source.faults c.args.source.now) (g.S.Source.faults c.args.source.now)
    (g.K.Sink.written c.args.sink.now) (g.K.Sink.written c.make_script.new.sink)
    (g.K.Sink.faults c.args.sink.now) (g.K.Sink.faults c.make_script.new.sink))
    (sym c.in-Make.is)
    (record { unread = refl; no_faults = refl; wrote = c.make_script.ensures.cause })

pub returns-in-Soak-clause-cause : goal.returns-in-Soak-clause-cause
returns-in-Soak-clause-cause g c =
    subst
    (λ command. Answers command c.soak.result
    (g.S.Source.left c.args.source.now) (g.S.Source.left c.args.source.now)
    (g.S.Source.faults c.args.source.now) (g.S.Source.faults c.args.source.now)
    (g.K.Sink.written c.args.sink.now) (g.K.Sink.written c.soak.new.sink)
    (g.K.Sink.faults c.args.sink.now) (g.K.Sink.faults c.soak.new.sink))
    (sym c.in-Soak.is)
    (record { unread = refl; no_faults = refl; wrote = c.soak.ensures.cause })

pub returns-in-Image-clause-exact : goal.returns-in-Image-clause-exact
returns-in-Image-clause-exact g c =
    subst
    (λ command. IfTold (g.S.Source.left c.args.source.now) (λ content. IsDecided command c.image.result content))
    (sym c.in-Image.is)
    c.image.ensures.exact
