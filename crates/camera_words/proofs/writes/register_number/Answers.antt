use Rattle.std.proofs.Common.{ap, ◌∙◌}
use Rattle.std.proofs.lemmas.List.{take_rest}
use Rattle.camera_words.specs.Writes.{hex_number}
use Rattle.camera_words.proofs.writes.register_number.Goals as goal

pub returns-then-begins_hex : goal.returns-then-begins_hex
returns-then-begins_hex c = rw (← c.if-begins_hex.ensures) (c.hex_number.ensures ∙ ap hex_number (take_rest c.args.word.now 2))

pub returns-in-Ok : goal.returns-in-Ok
returns-in-Ok c = rw (← c.if-begins_hex.ensures, ← c.in-Ok.ensures.value)

pub returns-in-Err : goal.returns-in-Err
returns-in-Err c = rw (← c.if-begins_hex.ensures, ← c.in-Err.ensures.value)
