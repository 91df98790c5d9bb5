use Rattle.std.proofs.Common.{◌∙◌, arith}
use Rattle.buffer_words.proofs.Hands.{hands_same, hands_then}
use Rattle.gentl_stream.proofs.Informing.{counts_none, one_more_counted, used_le}
use Rattle.gentl_stream.proofs.info.count_announced.Goals as goal

pub load-requires-clause-table : goal.load-requires-clause-table
load-requires-clause-table c = c.loop-place.invariant.entries.enters.table ∙ c.requires.table

pub overflow_add-count : goal.overflow_add-count
overflow_add-count c = omega (arith, c.counts-count.ensures, used_le c.load.result.state, c.loop-place.invariant.few)

pub loop-place-init : goal.loop-place-init
loop-place-init c = record { entries = counts_none _; hands = hands_same _; few = omega arith }

pub loop-place-preserved : goal.loop-place-preserved
loop-place-preserved c = record {
  entries = one_more_counted _ _ _ c.loop-place.place c.loop-place.count c.counts-count.result c.load.result c.counts-count.ensures c.loop-place.invariant.entries c.load.ensures.entry;
  hands = hands_then _ _ _ c.loop-place.invariant.hands c.load.ensures.hands;
  few = omega (arith, c.counts-count.ensures, used_le c.load.result.state, c.loop-place.invariant.few);
}
