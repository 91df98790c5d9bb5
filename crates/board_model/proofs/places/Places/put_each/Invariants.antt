use Rattle.std.proofs.Common.{◌≡◌, length, take}
use Rattle.gev_types.specs.Limits.{place_count}
use Rattle.board_model.proofs.Collected.{ArePut}
use Rattle.board_model.proofs.places.Places.put_each.Given as goal

abbrev pub invariant-loop-place : goal.invariant-loop-place
invariant-loop-place l = (length l.self-inside.flags ≡ place_count) × ArePut (take l.place-index l.places) l.initial.self-inside.flags l.self-inside.flags
