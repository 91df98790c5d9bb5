use Rattle.std.proofs.Common.{◌≡◌, ◌≤◌, ◌*◌, ◌++◌}
use Rattle.std.specs.Prelude.{min}
use Rattle.std.specs.Vec.{vec_capacity}
use Rattle.frame_pictures.specs.Pictures.{row_text}
use Rattle.picture_report.specs.Writing.{HoldsBack}
use Rattle.picture_report.proofs.rows.write_row.Given as goal

abbrev pub invariant-loop-chunk : goal.invariant-loop-chunk
invariant-loop-chunk g l = record {
  held :
      HoldsBack (g.K.Sink.written l.initial.sink) (g.K.Sink.written l.sink) (l.initial.piece.items ++ row_text l.samples l.row (min l.width (l.chunk * 4096)))
      l.piece.items;
  capacity : 65536 ≤ vec_capacity l.piece;
  steady : g.K.Sink.faults l.sink ≡ g.K.Sink.faults l.initial.sink;
}
