use Rattle.std.proofs.Common.{subst}
use Rattle.world_machine.specs.State.{Run}
use Rattle.gev_world.specs.Runs.{RunsSoak}
use Rattle.gev_world.proofs.Looping.{unrun}
use Rattle.gev_top.proofs.soaking.run_world.Goals as goal

pub returns-in-Ok : goal.returns-in-Ok
returns-in-Ok g c =
    subst (λ (run : Run). RunsSoak c.run.result run (g.K.Sink.written c.args.sink.now) (g.K.Sink.written c.run.new.sink) (g.K.Sink.faults c.args.sink.now) (g.K.Sink.faults c.run.new.sink))
    c.in-Ok.ensures.run_is c.run.ensures

pub returns-in-Err : goal.returns-in-Err
returns-in-Err g c = unrun _ _ _ c.ranges.frames.fits
