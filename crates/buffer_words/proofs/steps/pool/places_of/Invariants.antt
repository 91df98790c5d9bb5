use Rattle.std.proofs.Common.{◌≤◌}
use Rattle.arrayvec.specs.ArrayVec.{array_vec_len}
use Rattle.buffer_words.proofs.Bits.{HasBits}
use Rattle.buffer_words.proofs.steps.pool.places_of.Given as goal

abbrev pub invariant-loop-place : goal.invariant-loop-place
invariant-loop-place l = (array_vec_len l.places ≤ l.place) × HasBits l.number l.place l.places.items
