use Rattle.std.proofs.Common.{◌∙◌}
use Rattle.live_crew.proofs.Stopped.{comes_back}
use Rattle.gev_apply.specs.Kinds.{is_applications}
use Rattle.frame_writing.proofs.Acts.{frames_work}
use Rattle.frame_writing.proofs.working.work_frames.Goals as goal

pub returns-clause-works : goal.returns-clause-works
returns-clause-works g c = frames_work _ _ _ c.args.pass c.hand_out_frames-handed.new.pass c.stop_if.new.pass c.is_enough-over.result c.hand_out_frames-handed.ensures.hands_out.looks c.stop_if.ensures.stops

pub returns-clause-back : goal.returns-clause-back
returns-clause-back g c =
    comes_back is_applications c.args.pass c.stop_if.new.pass
    (frames_work _ _ _ c.args.pass c.hand_out_frames-handed.new.pass c.stop_if.new.pass c.is_enough-over.result c.hand_out_frames-handed.ensures.hands_out.looks c.stop_if.ensures.stops)
    (λ i. (c.stop_if.ensures.hands i).slot ∙ ((c.hand_out_frames-handed.ensures.hands i).slot ∙ c.requires.hands i))
