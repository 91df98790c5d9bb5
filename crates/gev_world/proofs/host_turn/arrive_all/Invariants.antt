use Rattle.std.proofs.Common.{length}
use Rattle.gev_world.specs.Hosts.{Arriving}
use Rattle.gev_world.proofs.host_turn.arrive_all.Given as goal

abbrev pub invariant-loop-datagram : goal.invariant-loop-datagram
invariant-loop-datagram l = Arriving l.fn.stage l.stage l.fn.host l.host l.fn.arriving l.arriving

abbrev pub decreases-loop-datagram : goal.decreases-loop-datagram
decreases-loop-datagram l = length l.arriving
