use Rattle.std.proofs.Common.{◌≡◌, map, length}
use Rattle.std.specs.String.{string_bytes}
use Rattle.camera_words.specs.Receiving.{nothing_yet, words_from, place_of}
use Rattle.camera_words.proofs.reading.read_words.Given as goal

abbrev pub invariant-loop-rest : goal.invariant-loop-rest
invariant-loop-rest l =
    words_from (place_of l.reading) l.reading (map (λ word. string_bytes word) l.rest) ≡ words_from 3 nothing_yet (map (λ word. string_bytes word) l.fn.words)

abbrev pub decreases-loop-rest : goal.decreases-loop-rest
decreases-loop-rest l = length l.rest
