use Rattle.std.proofs.Common.{refl, ap}
use Rattle.board_machine.specs.declared.events.TakeEnd.TheVariants as taken
use Rattle.script_replay.proofs.Stepping.{stepper_apart, took_steps, none_taken_steps}
use Rattle.gev_report.specs.declared.step_text.StepText.TheVariants as text
use Rattle.script_replay.proofs.steps.take.Goals as goal

pub returns-in-Taken : goal.returns-in-Taken
returns-in-Taken c =
    took_steps _ _ c.args.actor c.in-Taken.place _ (stepper_apart c.args.actor c.requires.actor) c.requires.ready c.in-Taken.ensures.step c.in-Taken.ensures.contents (ap text.Number c.from.ensures)

pub returns-in-Empty : goal.returns-in-Empty
returns-in-Empty c =
    none_taken_steps _ _ c.args.actor taken.Empty _ (stepper_apart c.args.actor c.requires.actor) tt c.requires.ready c.in-Empty.ensures.step c.in-Empty.ensures.contents refl

pub returns-in-Closed : goal.returns-in-Closed
returns-in-Closed c =
    none_taken_steps _ _ c.args.actor taken.Closed _ (stepper_apart c.args.actor c.requires.actor) tt c.requires.ready c.in-Closed.ensures.step c.in-Closed.ensures.contents refl
