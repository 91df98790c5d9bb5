use Rattle.std.proofs.lemmas.Result.{on_ok_weaker}
use Rattle.script_replay.proofs.Driving.{start_drives, no_start_drives, start_rests}
use Rattle.script_replay.proofs.acquisition_lines.start.Goals as goal

pub returns-in-Ok-clause-drives : goal.returns-in-Ok-clause-drives
returns-in-Ok-clause-drives c =
    on_ok_weaker c.line_done.result
    (λ said a. start_drives _ _ _ _ a _ c.requires.rest c.in-Ok.ensures.entries c.in-Ok.ensures.contents c.restart.ensures.takes c.restart.ensures.fills said)
    c.line_done.ensures

pub returns-in-Ok-clause-rest : goal.returns-in-Ok-clause-rest
returns-in-Ok-clause-rest c =
    start_rests _ _ _ _ c.requires.rest c.in-Ok.ensures.entries c.in-Ok.ensures.contents c.restart.ensures.takes c.restart.ensures.fills c.restart.ensures.requests c.restart.ensures.no_buffer c.restart.ensures.asked

pub returns-in-Err-clause-drives : goal.returns-in-Err-clause-drives
returns-in-Err-clause-drives c =
    on_ok_weaker c.line_refused.result
    (λ said a. no_start_drives _ _ _ a c.in-Err.error _ c.in-Err.ensures.entries c.in-Err.ensures.contents said)
    c.line_refused.ensures
