use Rattle.std.proofs.Common.{◌≡◌, ◌≤◌, ◌+◌, ◌*◌, ◌++◌}
use Rattle.std.specs.Vec.{vec_len, vec_capacity}
use Rattle.frame_pictures.specs.declared.samples.Samples.TheVariants.{Grey16}
use Rattle.picture_report.specs.Writing.{pixels_text}
use Rattle.picture_report.proofs.pixels.add_wide.Given as goal

abbrev pub invariant-loop-k : goal.invariant-loop-k
invariant-loop-k l = record {
  text : l.piece.items ≡ l.initial.piece.items ++ pixels_text (Grey16 l.greatest) l.row l.from l.k;
  len : vec_len l.piece ≤ vec_len l.initial.piece + 3 * l.k;
  capacity : vec_capacity l.piece ≡ vec_capacity l.initial.piece;
}
