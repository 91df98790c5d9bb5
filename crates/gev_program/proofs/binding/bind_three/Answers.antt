use Rattle.std.proofs.Common.{◌∙◌}
use Rattle.gev_program.proofs.binding.bind_three.Goals as goal

pub returns-in-Ok-clause-stream : goal.returns-in-Ok-clause-stream
returns-in-Ok-clause-stream g c = c.bind_two.ensures.stream

pub returns-in-Ok-clause-control : goal.returns-in-Ok-clause-control
returns-in-Ok-clause-control g c = c.bind_two.ensures.control

pub returns-in-Ok-clause-camera_clock : goal.returns-in-Ok-clause-camera_clock
returns-in-Ok-clause-camera_clock g c = c.bind_two.ensures.camera_clock

pub returns-in-Ok-clause-host_clock : goal.returns-in-Ok-clause-host_clock
returns-in-Ok-clause-host_clock g c = c.bind_two.ensures.host_clock

pub returns-in-Ok-clause-app_clock : goal.returns-in-Ok-clause-app_clock
returns-in-Ok-clause-app_clock g c = c.bind_two.ensures.app_clock

pub returns-in-Ok-clause-untold : goal.returns-in-Ok-clause-untold
returns-in-Ok-clause-untold g c = c.bind_two.ensures.untold

pub returns-in-Ok-clause-links : goal.returns-in-Ok-clause-links
returns-in-Ok-clause-links g c = rw c.in-Ok.ensures.links at c.bind_two.ensures.links

pub returns-in-Ok-clause-no_fault : goal.returns-in-Ok-clause-no_fault
returns-in-Ok-clause-no_fault g c = rw c.in-Ok.ensures.no_fault at c.bind_two.ensures.no_fault

pub returns-in-Ok-clause-failed : goal.returns-in-Ok-clause-failed
returns-in-Ok-clause-failed g c = rw c.in-Ok.ensures.no_fault at c.bind_two.ensures.failed

pub returns-in-Ok-clause-clocks : goal.returns-in-Ok-clause-clocks
returns-in-Ok-clause-clocks g c = c.bind_two.ensures.clocks ∙ c.in-Ok.ensures.clocks
