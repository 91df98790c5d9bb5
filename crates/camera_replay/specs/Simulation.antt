-- The run of a camera script stands for the plain state that its contracts see, so that each line is run and refused
-- alike.
use Rattle.std.specs.Prelude.{◌≡◌, refl}
use Rattle.std.proofs.Common.{subst}
use Rattle.script_runs.specs.Simulation.{Simulates, RefusesAlike}
use Rattle.camera_replay.specs.Standing.{Standing, CameraRuns, CameraRefuses}

abbrev pub Same : Standing → Standing → Type 0
Same now plain = now ≡ plain

pub simulated : Simulates CameraRuns CameraRuns Same
simulated m new s n line ran report is run = (new, subst (λ (u : Standing). CameraRuns u n line ran report new) is run, refl)

pub refused_alike : RefusesAlike CameraRefuses CameraRefuses Same
refused_alike m s n line kind is refused = subst (λ (u : Standing). CameraRefuses u n line kind) is refused
