use Rattle.std.proofs.Common.{refl}
use Rattle.std.proofs.lemmas.Option.{slice_get-map, slice_get_read, slice_get_past}
use Rattle.camera_words.proofs.receiving.frames_at.Goals as goal

pub returns-in-Ok-clause-value : goal.returns-in-Ok-clause-value
returns-in-Ok-clause-value c =
    let there = c.in-Some.ensures.lookup.3 in
    rw (slice_get-map, slice_get_read c.args.words.now _ 2 c.in-Some.word.now refl there.0 (there.1 _), ← c.as_bytes.ensures.value, ← c.in-Ok.ensures.value)

pub returns-in-Err-clause-value : goal.returns-in-Err-clause-value
returns-in-Err-clause-value c =
    let there = c.in-Some.ensures.lookup.3 in
    rw (slice_get-map, slice_get_read c.args.words.now _ 2 c.in-Some.word.now refl there.0 (there.1 _), ← c.as_bytes.ensures.value, ← c.in-Err.ensures.value)

pub returns-in-None-clause-value : goal.returns-in-None-clause-value
returns-in-None-clause-value c = rw (slice_get-map, slice_get_past c.args.words.now 2 c.in-None.ensures.lookup.3)
