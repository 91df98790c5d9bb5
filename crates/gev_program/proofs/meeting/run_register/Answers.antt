use Rattle.std.proofs.Common.{refl, sym, ◌∙◌, subst, arith}
use Rattle.gev_top.specs.Completeness.{EndsRegisters}
use Rattle.gev_program.proofs.Accessed.{register_links, register_steady, register_says, register_ends}
use Rattle.gev_program.proofs.meeting.run_register.Goals as goal

pub returns-clause-registers : goal.returns-clause-registers
returns-clause-registers g c =
    (c.register-outcome.result, c.register_status.ensures, rw (c.as_slice.ensures.value) at c.register-outcome.ensures.registers)

pub returns-clause-binds : goal.returns-clause-binds
returns-clause-binds g c = omega (arith, c.register-outcome.ensures.binds)

pub returns-clause-link_fault : goal.returns-clause-link_fault
returns-clause-link_fault g c = λ is. register_links c.register-outcome.result _ _ c.register-outcome.ensures.fails (sym c.register_status.ensures ∙ is)

pub returns-clause-links_steady : goal.returns-clause-links_steady
returns-clause-links_steady g c =
    λ other. register_steady c.register-outcome.result _ _ c.register-outcome.ensures.fails (λ is. other (c.register_status.ensures ∙ is))

pub returns-clause-writes_steady : goal.returns-clause-writes_steady
returns-clause-writes_steady g c =
    λ write link. c.register-outcome.ensures.steady (λ is. write (c.register_status.ensures ∙ (rw is refl))) (λ is. link (c.register_status.ensures ∙ (rw is refl)))

pub returns-clause-understood : goal.returns-clause-understood
returns-clause-understood g c = λ place is. register_says c.register-outcome.result place (sym c.register_status.ensures ∙ is)

pub returns-clause-complete : goal.returns-clause-complete
returns-clause-complete g c =
    λ none_written none. subst EndsRegisters (sym c.register_status.ensures)
    (register_ends c.register-outcome.result _ _ _ _ c.register-outcome.ensures.fails c.register-outcome.ensures.failed none_written none)
