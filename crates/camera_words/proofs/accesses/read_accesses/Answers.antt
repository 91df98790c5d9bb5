use Rattle.std.proofs.Common.{rules}
use Rattle.std.specs.String.{string_bytes}
use Rattle.camera_words.proofs.WordByWord.{head_rest}
use Rattle.camera_words.proofs.AccessByAccess.{stops_at, goes_on}
use Rattle.camera_words.proofs.accesses.read_accesses.Goals as goal

pub returns-then-not-read : goal.returns-then-not-read
returns-then-not-read c =
    stops_at (λ word. string_bytes word) c.loop-rest.reading c.read.new.self c.loop-rest.rest.now _ c.word-item.result _ c.place.result
    (head_rest c.loop-rest.rest.now c.word-item.result c.in-len1-up.len_at_least c.word-item.is)
    c.place.ensures (search rules) (search rules) c.loop-rest.invariant

pub loop-rest-preserved : goal.loop-rest-preserved
loop-rest-preserved c =
    goes_on (λ word. string_bytes word) c.loop-rest.reading c.read.new.self c.loop-rest.rest.now _ c.word-item.result _
    (head_rest c.loop-rest.rest.now c.word-item.result c.in-len1-up.len_at_least c.word-item.is)
    (search rules) c.loop-rest.invariant
