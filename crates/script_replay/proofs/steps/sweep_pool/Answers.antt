use Rattle.std.proofs.Common.{ap}
use Rattle.script_replay.proofs.Stepping.{stepper_apart, sweep_pool_steps}
use Rattle.gev_report.specs.declared.step_text.StepText.TheVariants as text
use Rattle.script_replay.proofs.steps.sweep_pool.Goals as goal

pub returns : goal.returns
returns c =
    sweep_pool_steps _ _ c.args.actor c.sweep_pool.result.items _ (stepper_apart c.args.actor c.requires.actor) c.requires.ready c.sweep_pool.ensures.step c.sweep_pool.ensures.contents (ap text.Number c.len.ensures.value)
