use Rattle.std.proofs.Common.{◌≡◌, take}
use Rattle.board_model.specs.Collected.{collect}
use Rattle.board_model.proofs.places.Places.list.Given as goal

abbrev pub invariant-loop-place : goal.invariant-loop-place
invariant-loop-place l = l.list.items ≡ collect 0 (take l.place l.self-inside.flags)
