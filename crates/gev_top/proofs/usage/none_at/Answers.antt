use Rattle.std.proofs.Common.{refl}
use Rattle.std.proofs.lemmas.Option.{slice_get-map, slice_get_read, slice_get_past}
use Rattle.gev_top.proofs.usage.none_at.Goals as goal

pub returns-in-Some : goal.returns-in-Some
returns-in-Some c =
    let there = c.in-Some.ensures.lookup.3 in
    rw (slice_get-map, slice_get_read c.args.words.now _ c.args.place c.in-Some.field-0.now refl there.0 (there.1 _))

pub returns-in-None : goal.returns-in-None
returns-in-None c = rw (slice_get-map, slice_get_past c.args.words.now c.args.place c.in-None.ensures.lookup.3)
