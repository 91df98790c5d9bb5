-- The words so far, and then the rest, are all.
use Rattle.std.proofs.Common.{◌≡◌, ◌*◌, ◌-◌, ◌/◌, [], length, take, drop}
use Rattle.camera_machine.specs.Access.{read_all, addresses_in}
use Rattle.camera_sim.specs.Words.{after_bytes}
use Rattle.camera_sim.proofs.camera.Camera.read_list.Given as goal

abbrev pub invariant-loop-i : goal.invariant-loop-i
invariant-loop-i l =
    after_bytes [] (read_all l.self l.peer (addresses_in (length l.addresses / 4) l.addresses))
    ≡ after_bytes (take (4 * l.i) l.out) (read_all l.self l.peer (addresses_in (length l.addresses / 4 - l.i) (drop (4 * l.i) l.addresses)))
