-- The clock that is given is the last of the new ones.
use Rattle.gev_links.proofs.Giving.{gives_clock, given_clock, blank_new}
use Rattle.gev_links.proofs.memory_ports.MemoryPortsPorts.clock.Goals as goal
use Rattle.gev_links.proofs.memory_ports.MemoryPortsPorts.clock.Goals.{in-Some, in-None}

pub invariant_of-self : goal.invariant_of-self
invariant_of-self g c = gives_clock g.L.Link.received g.L.Link.sent g.L.Link.faults _ _ _ c.pop.result _ _ _ c.self.invariant c.pop.ensures.items

pub returns-clause-untold : goal.returns-clause-untold
returns-clause-untold g c =
    elim c.match-pop.branch [
      | in-Some w ↦
          given_clock g.L.Link.received g.L.Link.sent g.L.Link.faults _ _ _ _ w.in-Some.clock _ _ _ _ c.self.invariant c.pop.ensures.items w.in-Some.is w.result-is
      | in-None w ↦ blank_new w.new.result _ w.new.ensures.count w.result-is
    ]
