-- The front of a slice into which the front of other bytes was copied.
use Rattle.std.proofs.Common.{◌≡◌, ℕ, ◌≤◌, List, ◌++◌, length, take, ap, ◌∙◌, arith}
use Rattle.std.specs.Prelude.{min}
use Rattle.std.proofs.lemmas.List.{take_min, take_at, length-take-le}

take_least : (n room : ℕ) (bytes : List ℕ) → n ≡ min (length bytes) room → take n bytes ≡ take room bytes
take_least n room bytes is = let least : n ≡ min room (length bytes) = omega (arith, is) in ap (λ (k : ℕ). take k bytes) least ∙ take_min room bytes

pub front_taken : (n room : ℕ) (bytes rest : List ℕ) → n ≡ min (length bytes) room → take n (take n bytes ++ rest) ≡ take room bytes
front_taken n room bytes rest is =
    let some : n ≤ length bytes = omega (arith, is) in
    take_at (take n bytes) rest n (length-take-le n bytes some) ∙ take_least n room bytes is
