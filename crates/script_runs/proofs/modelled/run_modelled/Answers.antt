use Rattle.script_runs.proofs.Exacts.{exact}
use Rattle.script_runs.proofs.Simulations.{ends_as}
use Rattle.script_runs.proofs.modelled.run_modelled.Goals as goal

pub returns-clause-ends : goal.returns-clause-ends
returns-clause-ends g c s stands =
    ends_as _ _ g.M.Modelled.plain_runs g.M.Modelled.plain_refuses g.M.Modelled.stands_for g.met.M.Modelled.simulates g.met.M.Modelled.refuses_alike
    c.args.machine.now s c.run_script.result
    (g.S.Source.left c.args.source.now) (g.S.Source.left c.run_script.new.source)
    (g.S.Source.faults c.args.source.now) (g.S.Source.faults c.run_script.new.source)
    (g.K.Sink.written c.args.sink.now) (g.K.Sink.written c.run_script.new.sink)
    (g.K.Sink.faults c.args.sink.now) (g.K.Sink.faults c.run_script.new.sink)
    stands c.run_script.ensures.ends

pub returns-clause-exact : goal.returns-clause-exact
returns-clause-exact g c s stands start =
    exact g.M.Modelled.plain_runs g.M.Modelled.plain_refuses g.M.Modelled.verdict g.M.Modelled.behind g.M.Modelled.judges s c.run_script.result
    (g.S.Source.left c.args.source.now) (g.S.Source.left c.run_script.new.source)
    (g.S.Source.faults c.args.source.now) (g.S.Source.faults c.run_script.new.source)
    (g.K.Sink.written c.args.sink.now) (g.K.Sink.written c.run_script.new.sink)
    (g.K.Sink.faults c.args.sink.now) (g.K.Sink.faults c.run_script.new.sink)
    start (returns-clause-ends g c s stands)
