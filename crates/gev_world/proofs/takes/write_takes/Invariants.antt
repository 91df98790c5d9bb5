use Rattle.std.proofs.Common.{length}
use Rattle.gev_world.proofs.Taking.{Taking}
use Rattle.gev_world.proofs.takes.write_takes.Given as goal

abbrev pub invariant-takes : goal.invariant-takes
invariant-takes g l =
    Taking l.fn.host l.host (g.K.Sink.written l.fn.sink) (g.K.Sink.written l.sink) (g.K.Sink.faults l.fn.sink) (g.K.Sink.faults l.sink)

abbrev pub decreases-takes : goal.decreases-takes
decreases-takes g l = length l.host.running.board.board.out
