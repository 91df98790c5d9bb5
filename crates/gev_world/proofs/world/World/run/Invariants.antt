use Rattle.std.proofs.Common.{◌-◌, ◌*◌, suc}
use Rattle.world_laws.specs.Ending.{most_rounds}
use Rattle.gev_world.specs.Seen.{run_of}
use Rattle.gev_world.proofs.Looping.{Going}
use Rattle.gev_world.proofs.world.World.run.Given as goal

abbrev pub invariant-rounds : goal.invariant-rounds
invariant-rounds g l =
    Going (run_of l.fn.self.stage) (g.K.Sink.written l.fn.sink) (g.K.Sink.written l.sink) (g.K.Sink.faults l.fn.sink) (g.K.Sink.faults l.sink) l.self

abbrev pub decreases-rounds : goal.decreases-rounds
decreases-rounds g l = 10 * suc (most_rounds (run_of l.fn.self.stage)) - l.self.stage.moment
