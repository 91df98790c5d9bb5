-- The writes so far, and then the rest, are all.
use Rattle.std.proofs.Common.{◌≡◌, ◌*◌, ◌-◌, ◌/◌, length, drop}
use Rattle.camera_machine.specs.Access.{write_all, words_in}
use Rattle.camera_sim.specs.Words.{wrote, joined}
use Rattle.camera_sim.proofs.camera.Camera.write_words.Given as goal

abbrev pub invariant-loop-i : goal.invariant-loop-i
invariant-loop-i l =
    wrote (write_all l.initial.self l.peer l.moment (words_in (length l.bytes / 4) l.address l.bytes))
    ≡ joined l.i l.has_granted (write_all l.self l.peer l.moment (words_in (length l.bytes / 4 - l.i) l.next (drop (4 * l.i) l.bytes)))
