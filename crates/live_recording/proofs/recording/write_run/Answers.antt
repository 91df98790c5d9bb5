use Rattle.std.proofs.Common.{inl, inr, refl, ◌∙◌}
use Rattle.live_recording.proofs.Writing.{script_written}
use Rattle.live_recording.proofs.recording.write_run.Goals as goal

pub returns-in-Ok : goal.returns-in-Ok
returns-in-Ok g c =
    script_written _ _ c.write_script-written.result _ _ _ _ _ _ _ c.requires.told c.requires.counted (c.as_slice.ensures.value ∙ c.in-Ok.ensures.items) c.in-Ok.ensures.small c.write_script-written.ensures c.answer_by.ensures

pub returns-in-Err : goal.returns-in-Err
returns-in-Err g c = inr (inl (c.requires.told, refl, refl, refl))
