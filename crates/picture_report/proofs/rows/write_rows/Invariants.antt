use Rattle.std.proofs.Common.{◌≡◌, ◌≤◌, ◌*◌, ◌++◌, drop}
use Rattle.std.specs.Vec.{vec_capacity}
use Rattle.frame_pictures.specs.Pictures.{row_step, rows_text}
use Rattle.picture_report.specs.Writing.{HoldsBack}
use Rattle.picture_report.proofs.rows.write_rows.Given as goal

abbrev pub invariant-loop-row : goal.invariant-loop-row
invariant-loop-row g l = record {
  held :
      HoldsBack (g.K.Sink.written l.initial.sink) (g.K.Sink.written l.sink)
      (l.initial.piece.items ++ rows_text l.samples l.info l.image l._row) l.piece.items;
  rest : l.rest ≡ drop (l._row * row_step l.samples l.info) l.image;
  capacity : 65536 ≤ vec_capacity l.piece;
  steady : g.K.Sink.faults l.sink ≡ g.K.Sink.faults l.initial.sink;
}
