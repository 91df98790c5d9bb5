use Rattle.std.proofs.Common.{length}
use Rattle.acq_core.specs.Waiting.{waiting_ends}
use Rattle.explain_lines.proofs.Retiring.{TellsOn}
use Rattle.explain_lines.proofs.retired.tape_retired.Given as goal

abbrev pub invariant-loop-end : goal.invariant-loop-end
invariant-loop-end l = TellsOn l.initial.mode l.initial.board l.initial.counts l.initial.tape.items l.board l.counts l.tape.items l.initial.acq l.acq

abbrev pub decreases-loop-end : goal.decreases-loop-end
decreases-loop-end l = length (waiting_ends l.acq)
