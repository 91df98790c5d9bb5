use Rattle.std.proofs.Common.{refl, ◌∙◌}
use Rattle.board_machine.proofs.Adding.{adds_nothing}
use Rattle.board_model.proofs.CallsHands.{laid}
use Rattle.board_model.proofs.CallsParts.{lays_more, lays_whole, left_none, left_more, left_whole, next_in_hand, next_has}
use Rattle.board_model.proofs.board.PlainBoard.lay_each.Goals as goal

pub lay-requires-clause-actor : goal.lay-requires-clause-actor
lay-requires-clause-actor c = c.loop-place.invariant.entries.actors _ c.requires.actor

pub lay-requires-clause-in_hand : goal.lay-requires-clause-in_hand
lay-requires-clause-in_hand c = next_in_hand _ _ _ c.loop-place.place-index c.args.places.now c.loop-place-test.true c.requires.in_hand c.loop-place.invariant.left

pub lay-requires-clause-set_down : goal.lay-requires-clause-set_down
lay-requires-clause-set_down c = next_has _ _ c.loop-place.place-index c.args.places.now c.loop-place-test.true c.requires.set_down c.loop-place.invariant.contents

pub loop-place-init : goal.loop-place-init
loop-place-init c = record { entries = adds_nothing _ _ _ refl; left = left_none _ _; contents = refl }

pub loop-place-preserved : goal.loop-place-preserved
loop-place-preserved c = record {
  entries = lays_more _ _ _ _ c.loop-place.place-index c.args.places.now c.loop-place-test.true c.loop-place.invariant.entries c.lay.ensures.step;
  left = left_more _ _ _ _ c.loop-place.place-index c.args.places.now c.loop-place-test.true c.loop-place.invariant.left (λ j. laid _ _ _ _ j c.lay.ensures.step);
  contents = c.lay.ensures.contents ∙ c.loop-place.invariant.contents;
}

pub returns-clause-entries : goal.returns-clause-entries
returns-clause-entries c = lays_whole _ _ _ c.loop-place.place-index c.args.places.now c.loop-place-test.false c.loop-place.invariant.entries

pub returns-clause-in_hand : goal.returns-clause-in_hand
returns-clause-in_hand c = left_whole _ _ _ c.loop-place.place-index c.args.places.now c.loop-place-test.false c.loop-place.invariant.left
