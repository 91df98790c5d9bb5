use Rattle.std.proofs.Common.{ap}
use Rattle.script_replay.proofs.Stepping.{stepper_apart, sweep_out_steps}
use Rattle.gev_report.specs.declared.step_text.StepText.TheVariants as text
use Rattle.script_replay.proofs.steps.sweep_out.Goals as goal

pub returns : goal.returns
returns c =
    sweep_out_steps _ _ c.args.actor c.sweep_out.result.items _ (stepper_apart c.args.actor c.requires.actor) c.requires.ready c.sweep_out.ensures.step c.sweep_out.ensures.contents (ap text.Number c.len.ensures.value)
