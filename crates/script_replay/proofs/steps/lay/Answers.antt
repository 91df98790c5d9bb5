use Rattle.std.proofs.Common.{refl}
use Rattle.gev_script.specs.declared.act.Act.TheVariants as act
use Rattle.board_machine.specs.declared.events.Event.TheVariants.{Lay}
use Rattle.script_replay.proofs.Told.{in_hand_lies}
use Rattle.script_replay.proofs.Stepping.{stepper_apart, in_hand_steps, not_held_steps, not_so}
use Rattle.script_replay.proofs.steps.lay.Goals as goal

pub lay-requires-clause-set_down : goal.lay-requires-clause-set_down
lay-requires-clause-set_down c = in_hand_lies c.args.board.now c.args.actor c.args.place (stepper_apart c.args.actor c.requires.actor) c.requires.ready (c.holds.ensures.0 c.if-holds.true)

pub returns-then-holds : goal.returns-then-holds
returns-then-holds c =
    in_hand_steps _ _ c.args.actor c.args.place (Lay c.args.place) act.Lay _ (stepper_apart c.args.actor c.requires.actor) tt tt c.requires.ready (c.holds.ensures.0 c.if-holds.true) c.lay.ensures.step c.lay.ensures.contents refl

pub returns-else-holds : goal.returns-else-holds
returns-else-holds c =
    not_held_steps c.args.board.now c.args.actor c.args.place (Lay c.args.place) act.Lay (stepper_apart c.args.actor c.requires.actor) c.requires.ready (not_so c.holds.result c.if-holds.false c.holds.ensures.1)
