use Rattle.std.proofs.Common.{◌≡◌, ◌++◌, take}
use Rattle.std.specs.List.{flat_map}
use Rattle.camera_search.specs.Pieces.{piece_text}
use Rattle.camera_search.proofs.adding.add.Given as goal

abbrev pub invariant-loop-piece : goal.invariant-loop-piece
invariant-loop-piece l = l.out.items ≡ l.initial.out.items ++ flat_map piece_text (take l.piece-index l.pieces)
