use Rattle.script_replay.proofs.Stepping.{stepper_apart, close_steps}
use Rattle.script_replay.proofs.steps.close.Goals as goal

pub returns : goal.returns
returns c =
    close_steps _ _ c.args.actor (stepper_apart c.args.actor c.requires.actor) c.requires.ready c.close.ensures.step c.close.ensures.contents
