-- Both links go back, in the order in which they came.
use Rattle.std.proofs.Common.{◌∙◌, subst}
use Rattle.gev_links.specs.Given.{ToldOfThree}
use Rattle.gev_program.proofs.Backs.{two_back}
use Rattle.gev_program.proofs.binding.bind_last.Goals as goal

pub returns-in-Ok-clause-camera : goal.returns-in-Ok-clause-camera
returns-in-Ok-clause-camera g c = c.with_clocks.ensures.camera

pub returns-in-Ok-clause-stream : goal.returns-in-Ok-clause-stream
returns-in-Ok-clause-stream g c = c.with_clocks.ensures.stream

pub returns-in-Ok-clause-camera_clock : goal.returns-in-Ok-clause-camera_clock
returns-in-Ok-clause-camera_clock g c = c.with_clocks.ensures.camera_clock

pub returns-in-Ok-clause-host_clock : goal.returns-in-Ok-clause-host_clock
returns-in-Ok-clause-host_clock g c = c.with_clocks.ensures.host_clock

pub returns-in-Ok-clause-app_clock : goal.returns-in-Ok-clause-app_clock
returns-in-Ok-clause-app_clock g c = c.with_clocks.ensures.app_clock

pub returns-in-Ok-clause-untold : goal.returns-in-Ok-clause-untold
returns-in-Ok-clause-untold g c = c.with_clocks.ensures.untold

pub returns-in-Ok-clause-control : goal.returns-in-Ok-clause-control
returns-in-Ok-clause-control g c = rw c.with_clocks.ensures.control (record { unheard = c.in-Ok.ensures.unheard; unsent = c.in-Ok.ensures.unsent; no_fault = c.in-Ok.ensures.no_fault_of_it })

pub returns-in-Ok-clause-called : goal.returns-in-Ok-clause-called
returns-in-Ok-clause-called g c = c.with_clocks.ensures.binds ∙ c.in-Ok.ensures.binds

pub returns-in-Ok-clause-links : goal.returns-in-Ok-clause-links
returns-in-Ok-clause-links g c = c.with_clocks.ensures.links ∙ c.in-Ok.ensures.links

pub returns-in-Ok-clause-clocks : goal.returns-in-Ok-clause-clocks
returns-in-Ok-clause-clocks g c = c.with_clocks.ensures.clocks ∙ c.in-Ok.ensures.clocks

pub returns-in-Ok-clause-no_fault : goal.returns-in-Ok-clause-no_fault
returns-in-Ok-clause-no_fault g c = c.with_clocks.ensures.faults ∙ c.in-Ok.ensures.no_fault

pub returns-in-Err-clause-back : goal.returns-in-Err-clause-back
returns-in-Err-clause-back g c =
    two_back _ (g.P.Ports.links c.unbind.new.self) _ c.args.camera c.args.stream
    (subst (λ old. ToldOfThree old (g.P.Ports.links c.unbind.new.self) c.args.camera) c.in-Err.ensures.links c.unbind.ensures.links)
    (search depth 0)
