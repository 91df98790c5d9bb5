use Rattle.std.proofs.Common.{refl}
use Rattle.std.proofs.lemmas.Option.{slice_get-map, slice_get_read, slice_get_past}
use Rattle.camera_words.proofs.simulate_words.setting_at.Goals as goal

pub returns-in-Some-with_word : goal.returns-in-Some-with_word
returns-in-Some-with_word c =
    let there = c.in-Some.ensures.lookup.3 in
    rw (slice_get-map, slice_get_read c.args.words.now _ c.args.place c.in-Some.word.now refl there.0 (there.1 _), ← c.as_bytes.ensures.value, ← c.in-Some-with_word.ensures)

pub returns-in-None-with_word : goal.returns-in-None-with_word
returns-in-None-with_word c =
    let there = c.in-Some.ensures.lookup.3 in
    rw (slice_get-map, slice_get_read c.args.words.now _ c.args.place c.in-Some.word.now refl there.0 (there.1 _), ← c.as_bytes.ensures.value, ← c.in-None-with_word.ensures)

pub returns-in-None : goal.returns-in-None
returns-in-None c = rw (slice_get-map, slice_get_past c.args.words.now c.args.place c.in-None.ensures.lookup.3)
