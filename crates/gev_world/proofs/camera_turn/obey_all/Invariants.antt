use Rattle.std.proofs.Common.{length}
use Rattle.gev_world.specs.Turns.{Obeying}
use Rattle.gev_world.proofs.camera_turn.obey_all.Given as goal

abbrev pub invariant-loop-datagram : goal.invariant-loop-datagram
invariant-loop-datagram l = Obeying l.fn.stage l.stage l.fn.arriving l.arriving

abbrev pub decreases-loop-datagram : goal.decreases-loop-datagram
decreases-loop-datagram l = length l.arriving
