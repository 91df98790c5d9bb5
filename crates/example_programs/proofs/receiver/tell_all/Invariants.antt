use Rattle.std.proofs.Common.{◌≡◌, []}
use Rattle.acq_core.specs.Waiting.{waiting_fills, waiting_requests}
use Rattle.example_programs.proofs.receiver.tell_all.Given as goal

-- nothing waits between two lines
abbrev pub invariant-loop-line : goal.invariant-loop-line
invariant-loop-line l = (waiting_fills l.acq ≡ []) × (waiting_requests l.acq ≡ [])
