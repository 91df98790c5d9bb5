use Rattle.std.proofs.Common.{length}
use Rattle.gev_world.specs.Turns.{Putting}
use Rattle.gev_world.proofs.host_turn.put_all.Given as goal

abbrev pub invariant-loop-rest : goal.invariant-loop-rest
invariant-loop-rest l = Putting l.fn.stage l.stage l.fn.commands l.rest

abbrev pub decreases-loop-rest : goal.decreases-loop-rest
decreases-loop-rest l = length l.rest
