use Rattle.std.proofs.Common.{refl, ap, Ok, Err}
use Rattle.script_replay.proofs.Stepping.{stepper_apart, grab_steps}
use Rattle.script_replay.proofs.steps.grab.Goals as goal

pub returns-in-Ok : goal.returns-in-Ok
returns-in-Ok c =
    grab_steps _ _ c.args.actor c.args.place c.word-generation.result.generation (Ok tt) _ (stepper_apart c.args.actor c.requires.actor) c.requires.ready (ap (λ w. w.generation) c.word-generation.ensures) c.in-Ok.ensures.step c.in-Ok.ensures.contents refl

pub returns-in-Err : goal.returns-in-Err
returns-in-Err c =
    grab_steps _ _ c.args.actor c.args.place c.word-generation.result.generation (Err c.in-Err.found) c.found_text.result (stepper_apart c.args.actor c.requires.actor) c.requires.ready (ap (λ w. w.generation) c.word-generation.ensures) c.in-Err.ensures.step c.in-Err.ensures.contents c.found_text.ensures
