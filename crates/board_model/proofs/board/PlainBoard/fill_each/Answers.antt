use Rattle.std.proofs.Common.{get_or, refl, ap, ◌∙◌}
use Rattle.board_model.specs.Holdings.{with_empty_records}
use Rattle.board_model.proofs.CallsParts.{left_none, next_in_hand, next_has}
use Rattle.board_model.proofs.CallsFill.{fills_more, fills_none, fills_whole, left_one_more, still_have, empty_more}
use Rattle.std.proofs.lemmas.List.{take_all}
use Rattle.board_model.proofs.board.PlainBoard.fill_each.Goals as goal

pub fill_empty-requires-clause-actor : goal.fill_empty-requires-clause-actor
fill_empty-requires-clause-actor c = c.loop-place.invariant.entries.actors _ c.requires.actor

pub fill_empty-requires-clause-in_hand : goal.fill_empty-requires-clause-in_hand
fill_empty-requires-clause-in_hand c = next_in_hand _ _ _ c.loop-place.place-index c.args.places.now c.loop-place-test.true c.requires.in_hand c.loop-place.invariant.left

pub fill_empty-requires-clause-set_down : goal.fill_empty-requires-clause-set_down
fill_empty-requires-clause-set_down c = next_has _ _ c.loop-place.place-index c.args.places.now c.loop-place-test.true c.loop-place.invariant.have refl

pub loop-place-init : goal.loop-place-init
loop-place-init c = record { entries = fills_none _ _ c.args.self.now.contents; left = left_none _ _; have = c.requires.set_down; contents = refl }

pub loop-place-preserved : goal.loop-place-preserved
loop-place-preserved c = record {
  entries = fills_more _ _ _ _ c.loop-place.place-index _ _ c.args.places.now c.loop-place-test.true c.loop-place.invariant.contents c.loop-place.invariant.entries c.fill_empty.ensures.entries;
  left = left_one_more _ _ _ _ c.loop-place.place-index c.args.places.now c.loop-place-test.true c.loop-place.invariant.left c.fill_empty.ensures.in_hand;
  have = still_have _ _ (get_or c.args.places.now c.loop-place.place-index 0) _ (next_has _ _ c.loop-place.place-index c.args.places.now c.loop-place-test.true c.loop-place.invariant.have refl) c.fill_empty.ensures.contents c.loop-place.invariant.have;
  contents = empty_more _ _ _ c.loop-place.place-index c.args.places.now c.loop-place-test.true c.loop-place.invariant.contents c.fill_empty.ensures.contents;
}

pub returns-clause-entries : goal.returns-clause-entries
returns-clause-entries c = fills_whole _ _ _ c.loop-place.place-index _ c.args.places.now c.loop-place-test.false c.loop-place.invariant.entries

pub returns-clause-contents : goal.returns-clause-contents
returns-clause-contents c = c.loop-place.invariant.contents ∙ ap (λ js. with_empty_records js c.args.self.now.contents) (take_all c.loop-place.place-index c.args.places.now c.loop-place-test.false)
