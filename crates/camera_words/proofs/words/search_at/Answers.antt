use Rattle.std.proofs.Common.{refl}
use Rattle.std.proofs.lemmas.Option.{slice_get-map, slice_get_read, slice_get_past}
use Rattle.camera_words.proofs.words.search_at.Goals as goal

pub returns-in-Some-address_in : goal.returns-in-Some-address_in
returns-in-Some-address_in c =
    let there = c.in-Some.ensures.lookup.3 in
    rw (slice_get-map, slice_get_read c.args.words.now _ 1 c.in-Some.word.now refl there.0 (there.1 _), ← c.as_bytes.ensures.value, ← c.in-Some-address_in.ensures)

pub returns-in-None-address_in : goal.returns-in-None-address_in
returns-in-None-address_in c =
    let there = c.in-Some.ensures.lookup.3 in
    rw (slice_get-map, slice_get_read c.args.words.now _ 1 c.in-Some.word.now refl there.0 (there.1 _), ← c.as_bytes.ensures.value, ← c.in-None-address_in.ensures)

pub returns-in-None : goal.returns-in-None
returns-in-None c = rw (slice_get-map, slice_get_past c.args.words.now 1 c.in-None.ensures.lookup.3)
