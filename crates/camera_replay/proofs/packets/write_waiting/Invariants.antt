use Rattle.std.proofs.Common.{length}
use Rattle.camera_machine.specs.Stream.{all_waiting}
use Rattle.camera_replay.specs.Packets.{IsOnTheWay}
use Rattle.camera_replay.proofs.packets.write_waiting.Given as goal

abbrev pub invariant-packets : goal.invariant-packets
invariant-packets l = IsOnTheWay l.fn.camera l.fn.out.items l.camera l.out.items

abbrev pub decreases-packets : goal.decreases-packets
decreases-packets l = length (all_waiting l.camera.waiting)
