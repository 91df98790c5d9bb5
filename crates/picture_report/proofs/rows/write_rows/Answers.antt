use Rattle.std.proofs.Common.{drop, ap, ◌∙◌, arith}
use Rattle.frame_pictures.specs.Pictures.{row_step}
use Rattle.picture_report.proofs.Held.{on_err, rows_front, rows_more_held, next_row}
use Rattle.picture_report.proofs.rows.write_rows.Goals as goal

pub returns-in_err-write_row-clause-front : goal.returns-in_err-write_row-clause-front
returns-in_err-write_row-clause-front g c =
    on_err c.from_residual.result _
    (rows_front _ _ _ c.args.samples c.args.info c.args.image.now c.loop-row.rest.now c.args.piece.now.items c.loop-row.piece.items c.loop-row._row c.args.info.rows
    (omega (arith, c.loop-row-test.true)) c.loop-row.invariant.rest c.loop-row.invariant.held c.in_err-write_row.ensures.front)

pub loop-row-preserved : goal.loop-row-preserved
loop-row-preserved g c = record {
  held =
      rows_more_held _ _ _ c.args.samples c.args.info c.args.image.now c.loop-row.rest.now c.args.piece.now.items c.loop-row.piece.items _ c.loop-row._row
      c.loop-row.invariant.rest c.loop-row.invariant.held c.in_ok-write_row.ensures.held;
  rest =
      c.behind-rest.ensures ∙ ap (λ m. drop m c.loop-row.rest.now) c.row_step-step.ensures
      ∙ next_row c.args.image.now c.loop-row.rest.now c.loop-row._row (row_step c.args.samples c.args.info) c.loop-row.invariant.rest;
  capacity = c.write_row.ensures.capacity;
  steady = c.in_ok-write_row.ensures.no_fault ∙ c.loop-row.invariant.steady;
}
