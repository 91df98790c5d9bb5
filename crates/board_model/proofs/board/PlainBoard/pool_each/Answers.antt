use Rattle.std.proofs.Common.{refl, ◌∙◌}
use Rattle.board_machine.proofs.Adding.{adds_nothing}
use Rattle.board_model.proofs.CallsHands.{pooled}
use Rattle.board_model.proofs.CallsParts.{pools_more, pools_whole, left_none, left_more, next_in_hand, next_has}
use Rattle.board_model.proofs.board.PlainBoard.pool_each.Goals as goal

pub pool-requires-clause-actor : goal.pool-requires-clause-actor
pool-requires-clause-actor c = c.loop-place.invariant.entries.actors _ c.requires.actor

pub pool-requires-clause-in_hand : goal.pool-requires-clause-in_hand
pool-requires-clause-in_hand c = next_in_hand _ _ _ c.loop-place.place-index c.args.places.now c.loop-place-test.true c.requires.in_hand c.loop-place.invariant.left

pub pool-requires-clause-set_down : goal.pool-requires-clause-set_down
pool-requires-clause-set_down c = next_has _ _ c.loop-place.place-index c.args.places.now c.loop-place-test.true c.requires.set_down c.loop-place.invariant.contents

pub loop-place-init : goal.loop-place-init
loop-place-init c = record { entries = adds_nothing _ _ _ refl; left = left_none _ _; contents = refl }

pub loop-place-preserved : goal.loop-place-preserved
loop-place-preserved c = record {
  entries = pools_more _ _ _ _ c.loop-place.place-index c.args.places.now c.loop-place-test.true c.loop-place.invariant.entries c.pool.ensures.step;
  left = left_more _ _ _ _ c.loop-place.place-index c.args.places.now c.loop-place-test.true c.loop-place.invariant.left (λ j. pooled _ _ _ _ j c.pool.ensures.step);
  contents = c.pool.ensures.contents ∙ c.loop-place.invariant.contents;
}

pub returns-clause-entries : goal.returns-clause-entries
returns-clause-entries c = pools_whole _ _ _ c.loop-place.place-index c.args.places.now c.loop-place-test.false c.loop-place.invariant.entries
