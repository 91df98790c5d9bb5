use Rattle.std.proofs.Common.{refl, sym, ◌∙◌, subst, arith}
use Rattle.gev_top.specs.Completeness.{EndsSimulation}
use Rattle.gev_program.proofs.Simulated.{simulate_links, simulate_says, simulate_ends}
use Rattle.gev_program.proofs.simulation.run_simulate.Goals as goal

pub returns-clause-simulates : goal.returns-clause-simulates
returns-clause-simulates g c = record {
  end = c.simulate.result;
  answered = c.simulate_status.ensures;
  simulates = c.simulate.ensures.simulates;
  unread = c.simulate.ensures.unread;
  reads_steady = c.simulate.ensures.reads_steady;
}

pub returns-clause-binds : goal.returns-clause-binds
returns-clause-binds g c = omega (arith, c.simulate.ensures.binds)

pub returns-clause-link_fault : goal.returns-clause-link_fault
returns-clause-link_fault g c = λ is. c.simulate.ensures.link_failed (simulate_links c.simulate.result (sym c.simulate_status.ensures ∙ is))

pub returns-clause-links_steady : goal.returns-clause-links_steady
returns-clause-links_steady g c = λ other. c.simulate.ensures.link_steady (λ is. other (c.simulate_status.ensures ∙ (rw is refl)))

pub returns-clause-writes_steady : goal.returns-clause-writes_steady
returns-clause-writes_steady g c = λ other. c.simulate.ensures.sink_steady (λ is. other (c.simulate_status.ensures ∙ (rw is refl)))

pub returns-clause-understood : goal.returns-clause-understood
returns-clause-understood g c = λ place is. simulate_says c.simulate.result place (sym c.simulate_status.ensures ∙ is)

pub returns-clause-complete : goal.returns-clause-complete
returns-clause-complete g c =
    λ none_written none. subst EndsSimulation (sym c.simulate_status.ensures)
    (simulate_ends c.simulate.result _ _ _ _ c.simulate.ensures.link_failed c.simulate.ensures.sink_failed none_written none)
