use Rattle.std.proofs.Common.{◌∙◌, sym, arith}
use Rattle.gev_report.proofs.Adding.{one_more, cut_back}
use Rattle.gev_report.proofs.Joining.{comma_span, all_behind}
use Rattle.gev_report.proofs.account_texts.add_behind_commas.Goals as goal

pub loop-range-preserved : goal.loop-range-preserved
loop-range-preserved c = (
  one_more c.add_span.result comma_span _ _ _ c.args.ranges.now c.loop-range.range-index _ c.loop-range-test.true
      (sym c.is_err.ensures.value ∙ c.if-is_err.false) c.loop-range.invariant.0 c.add_span.ensures.text,
  c.loop-range.invariant.1,
)

pub returns-then-is_err-clause-unchanged : goal.returns-then-is_err-clause-unchanged
returns-then-is_err-clause-unchanged c =
    c.truncate.ensures.items
    ∙ cut_back c.add_span.result _ _ _ _ _ (omega arith) (sym c.is_err.ensures.value ∙ c.if-is_err.true) c.loop-range.invariant.0 c.add_span.ensures.unchanged

pub returns-clause-text : goal.returns-clause-text
returns-clause-text c = all_behind _ _ c.args.ranges.now c.loop-range.range-index (omega (arith, c.loop-range-test.false)) c.loop-range.invariant.0
