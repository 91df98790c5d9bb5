-- Without memory for the tape links and clocks go back as they came.
use Rattle.std.proofs.Common.{[], ◌∷◌, subst}
use Rattle.gev_program.specs.Bound.{AllToldOfThree}
use Rattle.gev_program.proofs.recording.record_new.Goals as goal

pub returns-in-Err-clause-back : goal.returns-in-Err-clause-back
returns-in-Err-clause-back g c =
    λ _.
    record {
      camera = c.args.ends.camera;
      stream = c.args.ends.stream;
      control = c.args.ends.control;
      camera_clock = c.args.ends.camera_clock;
      host_clock = c.args.ends.host_clock;
      app_clock = c.args.ends.app_clock;
      untold = rw (rw c.in-Err.ensures.back at c.give_back.ensures.told) at c.requires.untold;
      links_back = subst (λ same. AllToldOfThree (g.P.Ports.links c.args.ports.now) (g.P.Ports.links c.give_back.new.ports) (same.camera ∷ same.stream ∷ same.control ∷ []))
          c.in-Err.ensures.back c.give_back.ensures.links;
      clocks_back = subst (λ same. AllToldOfThree (g.P.Ports.clocks c.args.ports.now) (g.P.Ports.clocks c.give_back.new.ports) (same.camera_clock ∷ same.host_clock ∷ same.app_clock ∷ []))
          c.in-Err.ensures.back c.give_back.ensures.clocks;
    }

-- The tape's link is the stream's.
pub returns-in-Ok-clause-recorded : goal.returns-in-Ok-clause-recorded
returns-in-Ok-clause-recorded g c = rw (c.in-Ok.ensures.camera, c.in-Ok.ensures.stream) at c.record_on.ensures.recorded
