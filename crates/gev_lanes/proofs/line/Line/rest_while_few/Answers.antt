-- It rests no more often than it may.
use Rattle.std.proofs.Common.{ℕ, ◌<◌, ◌≤◌, refl, ◌∙◌, arith}
use Rattle.gev_lanes.proofs.line.Line.rest_while_few.Goals as goal

not_above : (rests most : ℕ) → rests < most → rests ≤ most
not_above rests most few = omega arith

pub rests-init : goal.rests-init
rests-init g c = refl

pub returns-then-waiting-few-clause-same : goal.returns-then-waiting-few-clause-same
returns-then-waiting-few-clause-same g c = c.waiting.ensures.same ∙ c.rests.invariant

pub returns-then-waiting-few-clause-most : goal.returns-then-waiting-few-clause-most
returns-then-waiting-few-clause-most g c = not_above c.rests.rests c.args.most c.rests-test.true

pub rests-preserved : goal.rests-preserved
rests-preserved g c = c.waiting.ensures.same ∙ c.rests.invariant

pub returns-clause-same : goal.returns-clause-same
returns-clause-same g c = c.rests.invariant
