use Rattle.std.proofs.Common.{refl, ap, set, Some, true, false, ◌∙◌, rules, arith}
use Rattle.gev_types.specs.Filling.{Filling}
use Rattle.script_replay.proofs.Told.{in_hand_lies}
use Rattle.script_replay.proofs.Stepping.{stepper_apart, refill_steps}
use Rattle.script_replay.proofs.steps.fill_in_hand.Goals as goal

pub lift-buf-requires-clause-set_down : goal.lift-buf-requires-clause-set_down
lift-buf-requires-clause-set_down c = in_hand_lies c.args.board.now c.args.actor c.args.place (stepper_apart c.args.actor c.requires.actor) c.requires.ready c.requires.in_hand

pub returns-in-Filled : goal.returns-in-Filled
returns-in-Filled c =
    refill_steps c.args.board.now c.lift-buf.new.self c.fill.new.self c.fill.new.self c.args.actor c.args.place c.set_rec.new.self c.lift-buf.result true _ (stepper_apart c.args.actor c.requires.actor) c.requires.ready c.lift-buf.ensures.board c.lift-buf.ensures.value c.lift-buf.ensures.contents c.set_rec.ensures.bytes (c.set_rec.ensures.rec ∙ first_of (search rules, grind arith))
    c.in-Filled.ensures.step refl c.in-Filled.ensures.contents refl

pub returns-in-Closed : goal.returns-in-Closed
returns-in-Closed c =
    refill_steps c.args.board.now c.lift-buf.new.self c.fill.new.self c.set_down.new.self c.args.actor c.args.place c.set_rec.new.self c.lift-buf.result false _ (stepper_apart c.args.actor c.requires.actor) c.requires.ready c.lift-buf.ensures.board c.lift-buf.ensures.value c.lift-buf.ensures.contents c.set_rec.ensures.bytes (c.set_rec.ensures.rec ∙ first_of (search rules, grind arith))
    c.in-Closed.ensures.step c.set_down.ensures.board
    (c.set_down.ensures.contents ∙ ap (λ d. set d c.args.place (Some c.in-Closed.back)) c.in-Closed.ensures.contents ∙ ap (λ (f : Filling). set c.lift-buf.new.self.contents c.args.place (Some f)) c.in-Closed.ensures.back) refl
