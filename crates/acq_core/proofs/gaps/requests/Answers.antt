use Rattle.std.proofs.Common.{◌+◌, ◌∙◌, sym, arith}
use Rattle.acq_core.specs.Either.{in_either}
use Rattle.acq_core.proofs.RangeLemmas.{filled-push, filled-none, filled-past}
use Rattle.acq_core.proofs.gaps.requests.Goals as goal

pub returns-in-None : goal.returns-in-None
returns-in-None c =
    sym (filled-none (in_either c.args.kept.now c.args.refused.now) c.loop-top.out.items c.loop-top.from (c.args.top + 1) c.in-None.ensures)
    ∙ c.loop-top.invariant.1

pub returns-then-range-top : goal.returns-then-range-top
returns-then-range-top c =
    sym (filled-past (in_either c.args.kept.now c.args.refused.now) c.push.new.self.items (c.in-Some.range.1 + 1) (c.args.top + 1) (omega arith))
    ∙ filled-push (in_either c.args.kept.now c.args.refused.now) c.loop-top.out.items c.push.new.self.items c.loop-top.from (c.args.top + 1) c.in-Some.range (omega arith) c.push.ensures.items c.in-Some.ensures
    ∙ c.loop-top.invariant.1

pub loop-top-preserved : goal.loop-top-preserved
loop-top-preserved c = (
  omega arith,
  filled-push (in_either c.args.kept.now c.args.refused.now) c.loop-top.out.items c.push.new.self.items c.loop-top.from (c.args.top + 1) c.in-Some.range (omega arith) c.push.ensures.items c.in-Some.ensures
      ∙ c.loop-top.invariant.1,
)
