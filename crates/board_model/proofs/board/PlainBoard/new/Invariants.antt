use Rattle.std.proofs.Common.{◌≡◌, replicate}
use Rattle.board_model.specs.Plain.{nothing}
use Rattle.board_model.proofs.board.PlainBoard.new.Given as goal

abbrev pub invariant-loop-place : goal.invariant-loop-place
invariant-loop-place l = l.bufs.items ≡ replicate l._place nothing
