-- Ranges of ids: pairs of a first and a last id.
use Rattle.std.specs.Prelude.{ℕ, zero, suc, ◌+◌, ◌==◌, List, [], ◌∷◌, Bool, if◌then◌else◌}

-- the ranges with the id k, which lies below them all: it joins the first range where that begins next to it
abbrev pub with_id : ℕ → List (ℕ × ℕ) → List (ℕ × ℕ)
with_id k [] = (k, k) ∷ []
with_id k (r ∷ rs) = if r.0 == k + 1 then (k, r.1) ∷ rs else (k, k) ∷ r ∷ rs

-- Holes: the maximal ranges of the n ids from k on for which the test says false, lowest first.
abbrev pub holes : (ℕ → Bool) → ℕ → ℕ → List (ℕ × ℕ)
holes there k zero = []
holes there k (suc n) = if there k then holes there (k + 1) n else with_id k (holes there (k + 1) n)
