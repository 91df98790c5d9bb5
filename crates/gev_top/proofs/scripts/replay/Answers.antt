use Rattle.std.proofs.Common.{◌≡◌, None, Option, refl, sym, subst}
use Rattle.script_trace.specs.Standing as plain
use Rattle.script_replay.specs.declared.script.Script.{Script}
use Rattle.script_replay.specs.Replays.{StandsFor}
use Rattle.gev_top.proofs.Kept.{replays, replay_unbegun}
use Rattle.gev_top.proofs.scripts.replay.Goals as goal

-- a new machine stands before the first line
stands : (machine : Option Script) → machine ≡ None → StandsFor machine plain.first
stands machine is = subst (λ m. StandsFor m plain.first) (sym is) tt

pub returns-in-Ok-clause-cause : goal.returns-in-Ok-clause-cause
returns-in-Ok-clause-cause g c =
    replays c.run.result
    (g.S.Source.left c.args.source.now) (g.S.Source.left c.run.new.source)
    (g.S.Source.faults c.args.source.now) (g.S.Source.faults c.run.new.source)
    (g.K.Sink.written c.args.sink.now) (g.K.Sink.written c.run.new.sink)
    (g.K.Sink.faults c.args.sink.now) (g.K.Sink.faults c.run.new.sink)
    (c.run.ensures.ends plain.first (stands c.in-Ok.machine (c.in-Ok.ensures {u = tt})))

pub returns-in-Ok-clause-exact : goal.returns-in-Ok-clause-exact
returns-in-Ok-clause-exact g c = c.run.ensures.exact plain.first (stands c.in-Ok.machine (c.in-Ok.ensures {u = tt})) refl

pub returns-in-Err-clause-cause : goal.returns-in-Err-clause-cause
returns-in-Err-clause-cause g c =
    replay_unbegun (g.S.Source.left c.args.source.now) (g.S.Source.faults c.args.source.now) (g.K.Sink.written c.args.sink.now) (g.K.Sink.faults c.args.sink.now)
