use Rattle.std.proofs.Common.{refl, ◌∙◌, arith}
use Rattle.board_model.proofs.CallsInfo.{counts_none, one_more_counted, used_le}
use Rattle.board_model.proofs.board.PlainBoard.count_announced.Goals as goal

pub load-requires-clause-actor : goal.load-requires-clause-actor
load-requires-clause-actor c = c.loop-place.invariant.entries.actors _ c.requires.actor

pub overflow_add-count : goal.overflow_add-count
overflow_add-count c = omega (arith, c.counts-count.ensures, used_le c.load.result.state, c.loop-place.invariant.few)

pub loop-place-init : goal.loop-place-init
loop-place-init c = record { entries = counts_none _ _; few = omega arith; contents = refl }

pub loop-place-preserved : goal.loop-place-preserved
loop-place-preserved c = record {
  entries = one_more_counted _ _ _ _ c.loop-place.place c.loop-place.count c.counts-count.result c.load.result c.counts-count.ensures c.loop-place.invariant.entries c.load.ensures.step;
  few = omega (arith, c.counts-count.ensures, used_le c.load.result.state, c.loop-place.invariant.few);
  contents = c.load.ensures.contents ∙ c.loop-place.invariant.contents;
}
