use Rattle.script_replay.proofs.Stepping.{stepper_apart, held_fill, not_held_fill, not_so}
use Rattle.script_replay.proofs.steps.fill.Goals as goal

pub returns-then-holds : goal.returns-then-holds
returns-then-holds c =
    held_fill _ _ c.args.actor c.args.place c.fill_in_hand.result (c.holds.ensures.0 c.if-holds.true) c.fill_in_hand.ensures

pub returns-else-holds : goal.returns-else-holds
returns-else-holds c =
    not_held_fill c.args.board.now c.args.actor c.args.place (stepper_apart c.args.actor c.requires.actor) c.requires.ready (not_so c.holds.result c.if-holds.false c.holds.ensures.1)
