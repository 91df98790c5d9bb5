use Rattle.std.proofs.Common.{◌≡◌, length}
use Rattle.acq_core.specs.Waiting.{waiting_fills, waiting_requests}
use Rattle.example_programs.proofs.receiving.print_requests.Given as goal

abbrev pub invariant-loop-command : goal.invariant-loop-command
invariant-loop-command l = waiting_fills l.acq ≡ waiting_fills l.initial.acq

-- with each turn one command less waits
abbrev pub decreases-loop-command : goal.decreases-loop-command
decreases-loop-command l = length (waiting_requests l.acq)
