use Rattle.std.proofs.Common.{ℕ, ◌≤◌, ◌*◌, ◌∙◌, arith}
use Rattle.std.specs.Prelude.{min}
use Rattle.picture_report.proofs.Held.{on_err, row_front, chunk_more_held}
use Rattle.picture_report.proofs.rows.write_row.Goals as goal

within : (width at : ℕ) → min width at ≤ width
within width at = omega arith

pub returns-in_err-make_room-clause-front : goal.returns-in_err-make_room-clause-front
returns-in_err-make_room-clause-front g c =
    on_err c.from_residual.result _
    (row_front _ _ _ c.args.samples c.args.row.now c.args.piece.now.items c.loop-chunk.piece.items _ c.args.width
    (within c.args.width (c.loop-chunk.chunk * 4096)) c.loop-chunk.invariant.held c.in_err-make_room.ensures.front)

pub loop-chunk-preserved : goal.loop-chunk-preserved
loop-chunk-preserved g c = record {
  held =
      chunk_more_held _ _ _ c.args.samples c.args.row.now c.args.piece.now.items c.loop-chunk.piece.items c.make_room.new.piece.items _ c.args.width
      c.loop-chunk.chunk c.min.result (omega (arith, c.loop-chunk-test.true, c.div_ceil-chunk-end.ensures)) c.min.ensures c.loop-chunk.invariant.held
      c.in_ok-make_room.ensures.held c.add_pixels.ensures.text;
  capacity = omega (arith, c.make_room.ensures.capacity, c.add_pixels.ensures.capacity);
  steady = c.in_ok-make_room.ensures.no_fault ∙ c.loop-chunk.invariant.steady;
}
