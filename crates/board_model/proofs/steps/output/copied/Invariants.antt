use Rattle.std.proofs.Common.{◌≡◌, ◌≤◌, length, take}
use Rattle.gev_types.specs.Limits.{place_count}
use Rattle.board_model.proofs.steps.output.copied.Given as goal

abbrev pub invariant-loop-place : goal.invariant-loop-place
invariant-loop-place l = (l.copy.items ≡ take l.place-index l.all) × (length l.all ≤ place_count)
