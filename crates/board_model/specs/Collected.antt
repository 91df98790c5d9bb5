-- A set of places, kept as one flag for each place, seen as the rising list of its members.
use Rattle.std.specs.Prelude.{ℕ, ◌+◌, Bool, cond, List, [], ◌∷◌}

-- the places from n on whose flags are set, lowest first
abbrev pub collect : ℕ → List Bool → List ℕ
collect n [] = []
collect n (flag ∷ flags) = cond flag (n ∷ collect (n + 1) flags) (collect (n + 1) flags)
