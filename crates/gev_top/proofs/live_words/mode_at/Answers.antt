use Rattle.std.proofs.Common.{refl}
use Rattle.std.proofs.lemmas.Option.{slice_get-map, slice_get_read, slice_get_past}
use Rattle.gev_top.proofs.live_words.mode_at.Goals as goal

pub returns-in-None : goal.returns-in-None
returns-in-None c = rw (slice_get-map, slice_get_past c.args.words.now c.args.place c.in-None.ensures.lookup.3)

pub returns-in-Ok : goal.returns-in-Ok
returns-in-Ok c =
    let there = c.in-Some.ensures.lookup.3 in
    rw (slice_get-map, slice_get_read c.args.words.now _ c.args.place c.in-Some.word.now refl there.0 (there.1 _), ← c.as_bytes.ensures.value, ← c.in-Ok.ensures.value, c.mode_of.ensures)

pub returns-in-Err : goal.returns-in-Err
returns-in-Err c =
    let there = c.in-Some.ensures.lookup.3 in
    rw (slice_get-map, slice_get_read c.args.words.now _ c.args.place c.in-Some.word.now refl there.0 (there.1 _), ← c.as_bytes.ensures.value, ← c.in-Err.ensures.value)
