use Rattle.std.proofs.Common.{true, false, refl}
use Rattle.board_machine.specs.declared.events.Event.TheVariants.{Take}
use Rattle.board_machine.specs.declared.events.TakeEnd.TheVariants.{Closed}
use Rattle.gentl_events.proofs.Taking.{one_act, two_acts, lends_at}
use Rattle.gentl_events.proofs.wait.turn.Goals as goal

pub returns-in-Taken-clause-turns : goal.returns-in-Taken-clause-turns
returns-in-Taken-clause-turns g c =
    lends_at _ _ _ _ c.lend-loan.result c.lend-loan.ensures.place c.in-Taken.ensures.entry c.in-Taken.ensures.hands
    c.lend-loan.ensures.grows c.lend-loan.ensures.run c.lend-loan.ensures.was c.lend-loan.ensures.loan c.lend-loan.ensures.hands

pub returns-in-Closed-clause-turns : goal.returns-in-Closed-clause-turns
returns-in-Closed-clause-turns g c = (tt, one_act _ _ (Take Closed) refl c.in-Closed.ensures.entry refl c.in-Closed.ensures.hands)

pub returns-then-unpost-clause-turns : goal.returns-then-unpost-clause-turns
returns-then-unpost-clause-turns g c = (tt, two_acts _ _ _ true c.in-Empty.ensures.entry c.in-Empty.ensures.hands c.if-unpost.ensures.entry c.if-unpost.ensures.hands)

pub returns-else-unpost-clause-turns : goal.returns-else-unpost-clause-turns
returns-else-unpost-clause-turns g c = two_acts _ _ _ false c.in-Empty.ensures.entry c.in-Empty.ensures.hands c.if-unpost.ensures.entry c.if-unpost.ensures.hands
