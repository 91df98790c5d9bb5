use Rattle.std.proofs.lemmas.List.{drop_all}
use Rattle.gev_record.proofs.Taking.{freeing_goes_on, freed_all_of}
use Rattle.gev_record.proofs.used.Used.free_all.Goals as goal

pub loop-place-preserved : goal.loop-place-preserved
loop-place-preserved c =
    freeing_goes_on c.loop-place.place-index c.args.places.now _ c.args.self c.loop-place.used c.free-used.result c.loop-place-test.true c.loop-place.invariant c.free-used.ensures

pub returns : goal.returns
returns c =
    freed_all_of c.args.places.now _ c.args.self c.loop-place.used (drop_all c.loop-place.place-index c.args.places.now c.loop-place-test.false) c.loop-place.invariant
