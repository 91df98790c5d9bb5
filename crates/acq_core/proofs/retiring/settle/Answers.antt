use Rattle.std.proofs.Common.{refl, sym, ◌∙◌}
use Rattle.acq_core.proofs.Settling.{settling_one, settling_end}
use Rattle.acq_core.proofs.retiring.settle.Goals as goal

pub loop-cause-preserved : goal.loop-cause-preserved
loop-cause-preserved c =
    settling_one c.args.window.now c.loop-cause.window c.retire_first.new.window c.in-Some.cause c.loop-cause.invariant
    (c.in-Some.ensures.some refl) c.in-Some.ensures.due c.retire_first.ensures.retires
    c.retire_first.ensures.changes c.retire_first.ensures.room

pub returns-clause-retires : goal.returns-clause-retires
returns-clause-retires c =
    settling_end c.args.window.now c.loop-cause.window c.loop-cause.invariant (λ o rest s. sym c.in_default.is ∙ c.first_due.ensures.due o rest s)
