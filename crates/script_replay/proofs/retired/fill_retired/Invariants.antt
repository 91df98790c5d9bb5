use Rattle.std.proofs.Common.{length}
use Rattle.acq_core.specs.Waiting.{waiting_fills}
use Rattle.script_replay.proofs.Retiring.{FillsOn}
use Rattle.script_replay.proofs.retired.fill_retired.Given as goal

abbrev pub invariant-loop-fill : goal.invariant-loop-fill
invariant-loop-fill l = FillsOn l.initial.mode l.initial.board l.initial.counts l.board l.counts l.initial.acq l.acq

abbrev pub decreases-loop-fill : goal.decreases-loop-fill
decreases-loop-fill l = length (waiting_fills l.acq)
