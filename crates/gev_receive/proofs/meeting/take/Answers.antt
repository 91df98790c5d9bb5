use Rattle.std.proofs.Common.{ap, List, ◌∙◌}
use Rattle.camera_words.specs.declared.register_write.RegisterWrite.{RegisterWrite as Wish}
use Rattle.camera_words.specs.declared.register_write.Stage.TheVariants.{Set, Start}
use Rattle.gev_receive.specs.Starting.{writes_at}
use Rattle.gev_receive.proofs.Leaving.{takes_so}
use Rattle.gev_receive.proofs.meeting.take.Goals as goal

pub returns-clause-takes : goal.returns-clause-takes
returns-clause-takes g c =
    takes_so c.args.ways.settings.now c.args.ways.camera c.args.ways.own _ _ c.take_camera.result _ _
    (c.as_slice-3.ensures.value ∙ (c.writes_at-sets.ensures ∙ ap (λ (l : List Wish). writes_at Set l) c.as_slice.ensures.value))
    (c.as_slice-4.ensures.value ∙ (c.writes_at-starts.ensures ∙ ap (λ (l : List Wish). writes_at Start l) c.as_slice-2.ensures.value)) c.take_camera.ensures.takes
