use Rattle.std.proofs.Common.{refl, sym, ◌∙◌, subst, arith}
use Rattle.gev_top.specs.Completeness.{EndsSearch}
use Rattle.gev_program.proofs.Faced.{search_links, search_says, search_ends}
use Rattle.gev_program.proofs.meeting.run_discover.Goals as goal

pub returns-clause-discovers : goal.returns-clause-discovers
returns-clause-discovers g c = (c.discover.result, c.search_status.ensures, c.discover.ensures.discovers)

pub returns-clause-binds : goal.returns-clause-binds
returns-clause-binds g c = omega (arith, c.discover.ensures.binds)

pub returns-clause-link_fault : goal.returns-clause-link_fault
returns-clause-link_fault g c = λ is. c.discover.ensures.link_failed (search_links c.discover.result (sym c.search_status.ensures ∙ is))

pub returns-clause-links_steady : goal.returns-clause-links_steady
returns-clause-links_steady g c = λ other. c.discover.ensures.link_steady (λ is. other (c.search_status.ensures ∙ (rw is refl)))

pub returns-clause-writes_steady : goal.returns-clause-writes_steady
returns-clause-writes_steady g c = λ other. c.discover.ensures.sink_steady (λ is. other (c.search_status.ensures ∙ (rw is refl)))

pub returns-clause-understood : goal.returns-clause-understood
returns-clause-understood g c = λ place is. search_says c.discover.result place (sym c.search_status.ensures ∙ is)

pub returns-clause-complete : goal.returns-clause-complete
returns-clause-complete g c =
    λ none_written none. subst EndsSearch (sym c.search_status.ensures)
    (search_ends c.discover.result _ _ _ _ c.discover.ensures.link_failed c.discover.ensures.sink_failed none_written none)
