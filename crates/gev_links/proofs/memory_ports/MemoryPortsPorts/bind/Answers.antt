-- The link that is given is the last of the new ones.
use Rattle.gev_links.proofs.Giving.{gives_link, given_link}
use Rattle.gev_links.proofs.memory_ports.MemoryPortsPorts.bind.Goals as goal

pub invariant_of-self : goal.invariant_of-self
invariant_of-self g c = gives_link g.L.Link.received g.L.Link.sent g.L.Link.faults _ _ c.pop.result _ _ _ _ _ c.self.invariant c.pop.ensures.items c.keep_address.ensures.room

pub returns-then-not-fails-clause-unheard : goal.returns-then-not-fails-clause-unheard
returns-then-not-fails-clause-unheard g c =
    (given_link g.L.Link.received g.L.Link.sent g.L.Link.faults _ _ _ c.in-Some.link _ _ _ _ c.self.invariant c.pop.ensures.items c.in-Some.is).unheard

pub returns-then-not-fails-clause-unsent : goal.returns-then-not-fails-clause-unsent
returns-then-not-fails-clause-unsent g c =
    (given_link g.L.Link.received g.L.Link.sent g.L.Link.faults _ _ _ c.in-Some.link _ _ _ _ c.self.invariant c.pop.ensures.items c.in-Some.is).unsent

pub returns-then-not-fails-clause-no_fault_of_it :
    goal.returns-then-not-fails-clause-no_fault_of_it
returns-then-not-fails-clause-no_fault_of_it g c =
    (given_link g.L.Link.received g.L.Link.sent g.L.Link.faults _ _ _ c.in-Some.link _ _ _ _ c.self.invariant c.pop.ensures.items c.in-Some.is).no_fault

pub invariant_of-self-2 : goal.invariant_of-self-2
invariant_of-self-2 g c = gives_link g.L.Link.received g.L.Link.sent g.L.Link.faults _ _ c.pop.result _ _ _ _ _ c.self.invariant c.pop.ensures.items c.self.invariant.room_for_bound
