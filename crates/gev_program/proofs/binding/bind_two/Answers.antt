-- The first link goes back.
use Rattle.std.proofs.Common.{◌∙◌, ap, subst}
use Rattle.gev_links.specs.Given.{one_more, ToldOfThree}
use Rattle.gev_program.proofs.Backs.{unbound_first}
use Rattle.gev_program.proofs.binding.bind_two.Goals as goal

pub returns-in-Err-clause-back : goal.returns-in-Err-clause-back
returns-in-Err-clause-back g c =
    λ before is.
    unbound_first g.P.L.Link.received g.P.L.Link.sent g.P.L.Link.faults before (g.P.Ports.binds c.unbind.new.self) (g.P.Ports.links c.args.ports.now) (g.P.Ports.links c.unbind.new.self) c.args.camera
    c.requires.camera
    (c.unbind.ensures.binds ∙ (c.in-Err.ensures.binds ∙ ap one_more is))
    (subst (λ old. ToldOfThree old (g.P.Ports.links c.unbind.new.self) c.args.camera) c.in-Err.ensures.links c.unbind.ensures.links)

pub returns-in-Ok-clause-camera : goal.returns-in-Ok-clause-camera
returns-in-Ok-clause-camera g c = c.bind_last.ensures.camera

pub returns-in-Ok-clause-control : goal.returns-in-Ok-clause-control
returns-in-Ok-clause-control g c = c.bind_last.ensures.control

pub returns-in-Ok-clause-camera_clock : goal.returns-in-Ok-clause-camera_clock
returns-in-Ok-clause-camera_clock g c = c.bind_last.ensures.camera_clock

pub returns-in-Ok-clause-host_clock : goal.returns-in-Ok-clause-host_clock
returns-in-Ok-clause-host_clock g c = c.bind_last.ensures.host_clock

pub returns-in-Ok-clause-app_clock : goal.returns-in-Ok-clause-app_clock
returns-in-Ok-clause-app_clock g c = c.bind_last.ensures.app_clock

pub returns-in-Ok-clause-untold : goal.returns-in-Ok-clause-untold
returns-in-Ok-clause-untold g c = c.bind_last.ensures.untold

pub returns-in-Ok-clause-links : goal.returns-in-Ok-clause-links
returns-in-Ok-clause-links g c = rw c.in-Ok.ensures.links at c.bind_last.ensures.links

pub returns-in-Ok-clause-no_fault : goal.returns-in-Ok-clause-no_fault
returns-in-Ok-clause-no_fault g c = rw c.in-Ok.ensures.no_fault at c.bind_last.ensures.no_fault

pub returns-in-Ok-clause-failed : goal.returns-in-Ok-clause-failed
returns-in-Ok-clause-failed g c = rw c.in-Ok.ensures.no_fault at c.bind_last.ensures.failed

pub returns-in-Ok-clause-clocks : goal.returns-in-Ok-clause-clocks
returns-in-Ok-clause-clocks g c = c.bind_last.ensures.clocks ∙ c.in-Ok.ensures.clocks

pub returns-in-Err-clause-clocks : goal.returns-in-Err-clause-clocks
returns-in-Err-clause-clocks g c = c.unbind.ensures.clocks ∙ c.in-Err.ensures.clocks
