use Rattle.std.proofs.Common.{◌≡◌, [], map, length}
use Rattle.std.specs.String.{string_bytes}
use Rattle.camera_words.specs.Accesses.{accesses_from, place_of}
use Rattle.camera_words.proofs.accesses.read_accesses.Given as goal

abbrev pub invariant-loop-rest : goal.invariant-loop-rest
invariant-loop-rest l =
    accesses_from (place_of l.reading) l.reading (map (λ word. string_bytes word) l.rest) ≡ accesses_from 2 [] (map (λ word. string_bytes word) l.fn.words)

abbrev pub decreases-loop-rest : goal.decreases-loop-rest
decreases-loop-rest l = length l.rest
