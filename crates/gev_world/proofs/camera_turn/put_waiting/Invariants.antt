use Rattle.std.proofs.Common.{length}
use Rattle.camera_machine.specs.Stream.{all_waiting}
use Rattle.gev_world.specs.Turns.{IsOnTheWay}
use Rattle.gev_world.proofs.camera_turn.put_waiting.Given as goal

abbrev pub invariant-packets : goal.invariant-packets
invariant-packets l = IsOnTheWay l.fn.stage l.stage

abbrev pub decreases-packets : goal.decreases-packets
decreases-packets l = length (all_waiting l.stage.camera.waiting)
