use Rattle.std.proofs.Common.{◌∙◌, refl}
use Rattle.gentl_stream.proofs.Giving.{leaves_none, leaves_more, leaves_whole, next_whole}
use Rattle.gentl_stream.proofs.Rounds.{of_nothing, pools_more, pools_whole}
use Rattle.gentl_stream.proofs.places.pool_each.Goals as goal

pub put_back-requires-clause-table : goal.put_back-requires-clause-table
put_back-requires-clause-table c = c.loop-place.invariant.entries.enters.table ∙ c.requires.table

pub put_back-requires-clause-holds : goal.put_back-requires-clause-holds
put_back-requires-clause-holds c = next_whole _ _ c.loop-place.place-index c.args.places.now c.loop-place-test.true c.requires.holds c.loop-place.invariant.hands

pub loop-place-init : goal.loop-place-init
loop-place-init c = record { entries = of_nothing _ _ refl; hands = leaves_none _ }

pub loop-place-preserved : goal.loop-place-preserved
loop-place-preserved c = record {
  entries = pools_more _ _ _ c.loop-place.place-index c.args.places.now c.loop-place-test.true c.loop-place.invariant.entries c.put_back.ensures.entry;
  hands = leaves_more _ _ _ c.loop-place.place-index c.args.places.now c.loop-place-test.true c.loop-place.invariant.hands c.put_back.ensures.hands;
}

pub returns-clause-entries : goal.returns-clause-entries
returns-clause-entries c = pools_whole _ _ c.loop-place.place-index c.args.places.now c.loop-place-test.false c.loop-place.invariant.entries

pub returns-clause-hands : goal.returns-clause-hands
returns-clause-hands c = leaves_whole _ _ c.loop-place.place-index c.args.places.now c.loop-place-test.false c.loop-place.invariant.hands
