use Rattle.std.proofs.Common.{refl, ap, Some, None}
use Rattle.script_replay.proofs.Stepping.{stepper_apart, claim_steps}
use Rattle.gev_report.specs.declared.step_text.StepText.TheVariants as text
use Rattle.script_replay.proofs.steps.claim.Goals as goal

pub returns-in-Some : goal.returns-in-Some
returns-in-Some c =
    claim_steps _ _ c.args.actor (Some c.in-Some.place) _ (stepper_apart c.args.actor c.requires.actor) c.requires.ready c.in-Some.ensures.step c.in-Some.ensures.contents (ap text.Number c.from.ensures)

pub returns-in-None : goal.returns-in-None
returns-in-None c =
    claim_steps _ _ c.args.actor None _ (stepper_apart c.args.actor c.requires.actor) c.requires.ready c.in-None.ensures.step c.in-None.ensures.contents refl
