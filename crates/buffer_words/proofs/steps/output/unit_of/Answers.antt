use Rattle.buffer_words.proofs.Fields.{units_next}
use Rattle.buffer_words.proofs.steps.output.unit_of.Goals as goal

pub loop-unit-preserved : goal.loop-unit-preserved
loop-unit-preserved c = units_next _ _ c.loop-unit.invariant c.loop-unit-test.true
