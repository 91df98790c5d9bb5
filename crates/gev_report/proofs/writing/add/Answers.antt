use Rattle.std.proofs.Common.{◌∙◌, sym, arith}
use Rattle.gev_report.specs.Pieces.{piece_text}
use Rattle.gev_report.proofs.Adding.{one_more, cut_back}
use Rattle.gev_report.proofs.writing.add.Goals as goal

pub loop-piece-preserved : goal.loop-piece-preserved
loop-piece-preserved c = (
  one_more c.add_piece.result piece_text _ _ _ c.args.pieces.now c.loop-piece.piece-index _ c.loop-piece-test.true
      (sym c.is_err.ensures.value ∙ c.if-is_err.false) c.loop-piece.invariant.0 c.add_piece.ensures.text,
  c.loop-piece.invariant.1,
)

pub returns-then-is_err-clause-unchanged : goal.returns-then-is_err-clause-unchanged
returns-then-is_err-clause-unchanged c =
    c.truncate.ensures.items
    ∙ cut_back c.add_piece.result _ _ _ _ _ (omega arith) (sym c.is_err.ensures.value ∙ c.if-is_err.true) c.loop-piece.invariant.0 c.add_piece.ensures.unchanged
