use Rattle.std.proofs.Common.{arith}
use Rattle.live_promises.proofs.Over.{receives_so}
use Rattle.gev_program.proofs.Received.{receive_says, receive_ends}
use Rattle.gev_program.proofs.reception.run_receive.Goals as goal

pub returns-clause-receives : goal.returns-clause-receives
returns-clause-receives g c =
    receives_so g.P.L.Link.received g.P.L.Link.sent g.P.L.Link.faults g.P.C.Clock.told c.args.settings.now c.receive_over.result _ _ _ _ _ _ _ _ _ _ _ _
    c.requires.within.window.0 c.receive_over.ensures.receives

pub returns-clause-binds : goal.returns-clause-binds
returns-clause-binds g c = omega (arith, c.receive_over.ensures.binds)

pub returns-clause-understood : goal.returns-clause-understood
returns-clause-understood g c = λ place. receive_says c.receive_over.result place c.receive_over.ensures.answers

pub returns-clause-complete : goal.returns-clause-complete
returns-clause-complete g c =
    λ none_written none.
    receive_ends c.receive_over.result _ _ _ _ c.receive_over.ensures.answers c.receive_over.ensures.link_failed c.receive_over.ensures.write_failed none_written none

pub returns-clause-alone : goal.returns-clause-alone
returns-clause-alone g c = c.receive_over.ensures.alone

pub returns-clause-own : goal.returns-clause-own
returns-clause-own g c = c.receive_over.ensures.own

pub returns-clause-link_fault : goal.returns-clause-link_fault
returns-clause-link_fault g c = c.receive_over.ensures.link_failed

pub returns-clause-links_steady : goal.returns-clause-links_steady
returns-clause-links_steady g c = c.receive_over.ensures.link_steady

pub returns-clause-writes_steady : goal.returns-clause-writes_steady
returns-clause-writes_steady g c = c.receive_over.ensures.write_steady
