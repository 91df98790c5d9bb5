-- Holes worked out by hand.
use Rattle.std.specs.Prelude.{◌≡◌, ℕ, ◌==◌, ◌||◌, not, nat_lt, [], ◌∷◌, Bool, true, false}
use Rattle.missing_ranges.specs.Ranges.{holes}

-- every id but these four
abbrev pub is_none_of_four : ℕ → Bool
is_none_of_four k = not (k == 63 || k == 64 || k == 65 || k == 128)

-- every other id, from 1 on
abbrev pub is_odd_below_six : ℕ → Bool
is_odd_below_six k = k == 1 || k == 3 || k == 5

pub record HolesAreWorked : Type 0 where
  -- neighbours are one range
  pub within : holes is_none_of_four 0 131 ≡ (63, 65) ∷ (128, 128) ∷ []
  -- a range ends with the ids in question
  pub cut : holes is_none_of_four 64 1 ≡ (64, 64) ∷ []
  -- single ids are ranges of their own
  pub single : holes is_odd_below_six 0 6 ≡ (0, 0) ∷ (2, 2) ∷ (4, 4) ∷ []
  -- where no id is set there is one range, and where each is, none
  pub whole : holes (λ k. false) 3 5 ≡ (3, 7) ∷ []
  pub none : holes (λ k. true) 0 5 ≡ []
  -- the first and the last id
  pub ends : holes (nat_lt 0) 0 3 ≡ (0, 0) ∷ []
