use Rattle.std.proofs.Common.{◌≡◌, ◌++◌, take, vec_len}
use Rattle.std.specs.List.{flat_map}
use Rattle.frame_writing.specs.Pieces.{piece_text}
use Rattle.frame_writing.proofs.adding.add.Given as goal

abbrev pub invariant-loop-piece : goal.invariant-loop-piece
invariant-loop-piece l =
    (l.out.items ≡ l.initial.out.items ++ flat_map piece_text (take l.piece-index l.pieces))
    × (l.start ≡ vec_len l.initial.out)
