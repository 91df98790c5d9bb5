-- The words so far, and then the rest, are all.
use Rattle.std.proofs.Common.{◌≡◌, ◌+◌, ◌*◌, ◌-◌, take}
use Rattle.camera_machine.specs.Words.{addresses_from}
use Rattle.camera_machine.specs.Access.{read_all}
use Rattle.camera_sim.specs.Words.{after_bytes}
use Rattle.camera_sim.proofs.camera.Camera.read_words.Given as goal

abbrev pub invariant-loop-i : goal.invariant-loop-i
invariant-loop-i l =
    after_bytes (take 4 l.initial.out) (read_all l.self l.peer (addresses_from l.count l.address))
    ≡ after_bytes (take (4 + 4 * l.i) l.out) (read_all l.self l.peer (addresses_from (l.count - l.i) l.next))
