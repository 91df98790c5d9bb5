use Rattle.gentl_events.proofs.Waiting.{Waiting}
use Rattle.gentl_events.proofs.wait.event_get.Given as goal

abbrev pub invariant-turns : goal.invariant-turns
invariant-turns g l = Waiting l.timeout (g.C.Clock.told l.fn.clock) (g.C.Clock.told l.clock) l.first l.fn.pass l.pass
