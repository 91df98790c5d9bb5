use Rattle.std.proofs.Common.{◌∙◌}
use Rattle.live_crew.proofs.Stopped.{comes_back}
use Rattle.gev_serve.specs.Kinds.{is_cameras}
use Rattle.gev_serve.proofs.Acts.{camera_works}
use Rattle.gev_serve.proofs.working.work_camera.Goals as goal

pub returns-clause-works : goal.returns-clause-works
returns-clause-works g c = camera_works _ _ _ _ _ _ _ c.args.pass c.serve-end.new.pass c.stop_if.new.pass _ c.is_failure.result c.serve-end.ensures.serves c.stop_if.ensures.stops

pub returns-clause-back : goal.returns-clause-back
returns-clause-back g c =
    comes_back is_cameras c.args.pass c.stop_if.new.pass
    (camera_works _ _ _ _ _ _ _ c.args.pass c.serve-end.new.pass c.stop_if.new.pass _ c.is_failure.result c.serve-end.ensures.serves c.stop_if.ensures.stops)
    (λ i. (c.stop_if.ensures.hands i).slot ∙ (c.serve-end.ensures.hands i ∙ c.requires.hands i))
