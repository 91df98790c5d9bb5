use Rattle.std.proofs.Common.{◌∙◌, refl}
use Rattle.gentl_stream.proofs.Giving.{leaves_none, leaves_more, leaves_whole, next_whole}
use Rattle.gentl_stream.proofs.Rounds.{of_nothing, lays_more, lays_whole}
use Rattle.gentl_stream.proofs.places.lay_each.Goals as goal

pub lay-requires-clause-table : goal.lay-requires-clause-table
lay-requires-clause-table c = c.loop-place.invariant.entries.enters.table ∙ c.requires.table

pub lay-requires-clause-holds : goal.lay-requires-clause-holds
lay-requires-clause-holds c = next_whole _ _ c.loop-place.place-index c.args.places.now c.loop-place-test.true c.requires.holds c.loop-place.invariant.hands

pub loop-place-init : goal.loop-place-init
loop-place-init c = record { entries = of_nothing _ _ refl; hands = leaves_none _ }

pub loop-place-preserved : goal.loop-place-preserved
loop-place-preserved c = record {
  entries = lays_more _ _ _ c.loop-place.place-index c.args.places.now c.loop-place-test.true c.loop-place.invariant.entries c.lay.ensures.entry;
  hands = leaves_more _ _ _ c.loop-place.place-index c.args.places.now c.loop-place-test.true c.loop-place.invariant.hands c.lay.ensures.hands;
}

pub returns-clause-entries : goal.returns-clause-entries
returns-clause-entries c = lays_whole _ _ c.loop-place.place-index c.args.places.now c.loop-place-test.false c.loop-place.invariant.entries

pub returns-clause-hands : goal.returns-clause-hands
returns-clause-hands c = leaves_whole _ _ c.loop-place.place-index c.args.places.now c.loop-place-test.false c.loop-place.invariant.hands
