use Rattle.std.proofs.Common.{[], ◌∙◌, refl}
use Rattle.buffer_words.proofs.Retries.{hands_self, hands_then}
use Rattle.gentl_stream.proofs.Rounds.{of_nothing, holds_more}
use Rattle.gentl_stream.proofs.places.pool_held.Goals as goal

pub pool_if_held-requires-clause-table : goal.pool_if_held-requires-clause-table
pool_if_held-requires-clause-table c = c.loop-place.invariant.entries.enters.table ∙ c.requires.table

pub loop-place-init : goal.loop-place-init
loop-place-init c = record {
  entries = of_nothing _ _ (record { seen = []; all = refl; grabbed = tt; is = refl });
  hands = hands_self _;
}

pub loop-place-preserved : goal.loop-place-preserved
loop-place-preserved c = record {
  entries = holds_more _ _ _ c.loop-place.place c.loop-place.invariant.entries c.pool_if_held.ensures.entries;
  hands = hands_then _ _ _ c.loop-place.invariant.hands c.pool_if_held.ensures.hands;
}
