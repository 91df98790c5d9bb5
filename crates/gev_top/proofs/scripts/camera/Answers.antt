use Rattle.std.proofs.Common.{refl}
use Rattle.camera_replay.specs.Standing as plain
use Rattle.gev_top.proofs.Kept.{serves}
use Rattle.gev_top.proofs.scripts.camera.Goals as goal

pub returns-clause-cause : goal.returns-clause-cause
returns-clause-cause g c =
    serves c.run.result
    (g.S.Source.left c.args.source.now) (g.S.Source.left c.run.new.source)
    (g.S.Source.faults c.args.source.now) (g.S.Source.faults c.run.new.source)
    (g.K.Sink.written c.args.sink.now) (g.K.Sink.written c.run.new.sink)
    (g.K.Sink.faults c.args.sink.now) (g.K.Sink.faults c.run.new.sink)
    (c.run.ensures.ends plain.first c.new-machine.ensures)

pub returns-clause-exact : goal.returns-clause-exact
returns-clause-exact g c = c.run.ensures.exact plain.first c.new-machine.ensures refl
