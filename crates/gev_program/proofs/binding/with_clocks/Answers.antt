-- Each link stands in its field.
use Rattle.std.proofs.Common.{refl, ◌∙◌}
use Rattle.gev_program.proofs.binding.with_clocks.Goals as goal

pub returns-clause-camera : goal.returns-clause-camera
returns-clause-camera g c = refl

pub returns-clause-stream : goal.returns-clause-stream
returns-clause-stream g c = refl

pub returns-clause-control : goal.returns-clause-control
returns-clause-control g c = refl

pub returns-clause-untold : goal.returns-clause-untold
returns-clause-untold g c = record {
  camera = c.requires.camera;
  stream = c.requires.stream;
  control = c.requires.control;
  camera_clock = c.clock-camera_clock.ensures.untold;
  host_clock = c.clock-host_clock.ensures.untold;
  app_clock = c.clock-app_clock.ensures.untold;
}

pub returns-clause-camera_clock : goal.returns-clause-camera_clock
returns-clause-camera_clock g c = c.clock-camera_clock.ensures.untold

pub returns-clause-host_clock : goal.returns-clause-host_clock
returns-clause-host_clock g c = c.clock-host_clock.ensures.untold

pub returns-clause-app_clock : goal.returns-clause-app_clock
returns-clause-app_clock g c = c.clock-app_clock.ensures.untold

pub returns-clause-binds : goal.returns-clause-binds
returns-clause-binds g c = c.clock-app_clock.ensures.binds ∙ (c.clock-host_clock.ensures.binds ∙ c.clock-camera_clock.ensures.binds)

pub returns-clause-bound : goal.returns-clause-bound
returns-clause-bound g c = c.clock-app_clock.ensures.bound ∙ (c.clock-host_clock.ensures.bound ∙ c.clock-camera_clock.ensures.bound)

pub returns-clause-links : goal.returns-clause-links
returns-clause-links g c = c.clock-app_clock.ensures.links ∙ (c.clock-host_clock.ensures.links ∙ c.clock-camera_clock.ensures.links)

pub returns-clause-clocks : goal.returns-clause-clocks
returns-clause-clocks g c = c.clock-app_clock.ensures.clocks ∙ (c.clock-host_clock.ensures.clocks ∙ c.clock-camera_clock.ensures.clocks)

pub returns-clause-faults : goal.returns-clause-faults
returns-clause-faults g c = c.clock-app_clock.ensures.faults ∙ (c.clock-host_clock.ensures.faults ∙ c.clock-camera_clock.ensures.faults)
