use Rattle.std.proofs.Common.{refl, sym, ◌∙◌, subst, arith}
use Rattle.gev_top.specs.Completeness.{EndsDescription}
use Rattle.gev_program.proofs.Faced.{describe_links, describe_steady, describe_says, describe_ends}
use Rattle.gev_program.proofs.meeting.run_description.Goals as goal

pub returns-clause-describes : goal.returns-clause-describes
returns-clause-describes g c = (c.fetch.result, c.describe_status.ensures, c.fetch.ensures.fetches)

pub returns-clause-binds : goal.returns-clause-binds
returns-clause-binds g c = omega (arith, c.fetch.ensures.binds)

pub returns-clause-link_fault : goal.returns-clause-link_fault
returns-clause-link_fault g c = λ is. describe_links c.fetch.result _ _ c.fetch.ensures.fails (sym c.describe_status.ensures ∙ is)

pub returns-clause-links_steady : goal.returns-clause-links_steady
returns-clause-links_steady g c = λ other. describe_steady c.fetch.result _ _ c.fetch.ensures.fails (λ is. other (c.describe_status.ensures ∙ is))

pub returns-clause-writes_steady : goal.returns-clause-writes_steady
returns-clause-writes_steady g c = λ other. c.fetch.ensures.steady (λ is. other (c.describe_status.ensures ∙ (rw is refl)))

pub returns-clause-understood : goal.returns-clause-understood
returns-clause-understood g c = λ place is. describe_says c.fetch.result place (sym c.describe_status.ensures ∙ is)

pub returns-clause-complete : goal.returns-clause-complete
returns-clause-complete g c =
    λ none_written none. subst EndsDescription (sym c.describe_status.ensures)
    (describe_ends c.fetch.result _ _ _ _ c.fetch.ensures.fails c.fetch.ensures.failed none_written none)
