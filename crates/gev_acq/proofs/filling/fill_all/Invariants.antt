use Rattle.std.proofs.Common.{length}
use Rattle.acq_core.specs.Waiting.{waiting_fills}
use Rattle.gev_acq.proofs.Emptying.{IsFilling}
use Rattle.gev_acq.proofs.filling.fill_all.Given as goal

abbrev pub invariant-fills : goal.invariant-fills
invariant-fills g l = IsFilling l.mode l.fn.pass l.fn.acq l.pass l.acq

abbrev pub decreases-fills : goal.decreases-fills
decreases-fills g l = length (waiting_fills l.acq)
