use Rattle.std.proofs.Common.{length}
use Rattle.acq_core.specs.Waiting.{waiting_requests}
use Rattle.explain_lines.proofs.Requests.{AsksOn}
use Rattle.explain_lines.proofs.asking.tape_requests.Given as goal

abbrev pub invariant-loop-resend : goal.invariant-loop-resend
invariant-loop-resend l = AsksOn l.standard l.initial.out.items l.out.items l.initial.tape.items l.tape.items l.initial.acq l.acq

abbrev pub decreases-loop-resend : goal.decreases-loop-resend
decreases-loop-resend l = length (waiting_requests l.acq)
