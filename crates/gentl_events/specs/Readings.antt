-- Which moments are late for a wait.
use Rattle.std.specs.Prelude.{⊤, ℕ, ◌-◌, ◌<◌, ◌≤◌, List, [], ◌∷◌}

-- The moment is at least so many milliseconds after the first. One below the first counts as the first.
abbrev pub IsLate : ℕ → ℕ → ℕ → Type 0
IsLate timeout first moment = timeout ≤ moment - first

-- none of these moments is late
abbrev pub AreEarly : ℕ → ℕ → List ℕ → Type 0
AreEarly timeout first [] = ⊤
AreEarly timeout first (moment ∷ later) = (moment - first < timeout) × AreEarly timeout first later
