use Rattle.std.proofs.Common.{◌∙◌, refl}
use Rattle.gentl_stream.proofs.Giving.{leaves_none, leaves_more, leaves_whole, next_whole}
use Rattle.gentl_stream.proofs.Rounds.{of_nothing}
use Rattle.gentl_stream.proofs.Emptying.{fills_more, fills_whole}
use Rattle.gentl_stream.proofs.empty.fill_each.Goals as goal

pub fill_empty-requires-clause-table : goal.fill_empty-requires-clause-table
fill_empty-requires-clause-table g c = c.loop-place.invariant.entries.enters.table ∙ c.requires.table

pub fill_empty-requires-clause-holds : goal.fill_empty-requires-clause-holds
fill_empty-requires-clause-holds g c = next_whole _ _ c.loop-place.place-index c.args.places.now c.loop-place-test.true c.requires.holds c.loop-place.invariant.hands

pub loop-place-init : goal.loop-place-init
loop-place-init g c = record { entries = of_nothing _ _ refl; hands = leaves_none _ }

pub loop-place-preserved : goal.loop-place-preserved
loop-place-preserved g c = record {
  entries = fills_more _ _ _ c.loop-place.place-index c.args.places.now c.loop-place-test.true c.requires.holds c.loop-place.invariant.hands c.loop-place.invariant.entries c.fill_empty.ensures.entries;
  hands = leaves_more _ _ _ c.loop-place.place-index c.args.places.now c.loop-place-test.true c.loop-place.invariant.hands c.fill_empty.ensures.hands;
}

pub returns-clause-entries : goal.returns-clause-entries
returns-clause-entries g c = fills_whole _ _ c.loop-place.place-index c.args.places.now c.loop-place-test.false c.loop-place.invariant.entries

pub returns-clause-hands : goal.returns-clause-hands
returns-clause-hands g c = leaves_whole _ _ c.loop-place.place-index c.args.places.now c.loop-place-test.false c.loop-place.invariant.hands
