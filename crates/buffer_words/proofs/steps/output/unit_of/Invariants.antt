use Rattle.std.proofs.Common.{◌+◌, ◌-◌}
use Rattle.buffer_words.proofs.Fields.{Units}
use Rattle.buffer_words.proofs.steps.output.unit_of.Given as goal

abbrev pub invariant-loop-unit : goal.invariant-loop-unit
invariant-loop-unit l = Units l.number l.unit

abbrev pub decreases-loop-unit : goal.decreases-loop-unit
decreases-loop-unit l = l.number + 1 - l.unit
