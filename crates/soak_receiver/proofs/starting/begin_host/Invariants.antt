use Rattle.soak_receiver.specs.Stocking.{IsStocked}
use Rattle.soak_receiver.proofs.starting.begin_host.Given as goal

abbrev pub invariant-loop-place : goal.invariant-loop-place
invariant-loop-place l = IsStocked l.place l.running
