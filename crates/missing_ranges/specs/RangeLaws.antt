-- What holes are, in words of their own. The ids in question are those from `from` up to below `to`.
use Rattle.std.specs.Prelude.{◌≡◌, ⊤, ℕ, ◌+◌, ◌-◌, ◌<◌, ◌≤◌, ◌&&◌, ◌||◌, nat_le, not, List, [], ◌∷◌, Bool, true, false, Option, Some, None}
use Rattle.std.specs.List.{AllByRecursion}
use Rattle.missing_ranges.specs.Ranges.{holes}

-- A range of these ids for which the test says false, and which no neighbour makes longer.
pub record IsHole (there : ℕ → Bool) (from to : ℕ) (r : ℕ × ℕ) : Type 0 where
  pub begins : from ≤ r.0
  pub rises : r.0 ≤ r.1
  pub ends : r.1 < to
  pub clear : (k : ℕ) → r.0 ≤ k → k ≤ r.1 → there k ≡ false
  pub before : from < r.0 → there (r.0 - 1) ≡ true
  pub after : r.1 + 1 < to → there (r.1 + 1) ≡ true

-- lowest first from this id on, with at least one id between each two
abbrev pub AreRising : ℕ → List (ℕ × ℕ) → Type 0
AreRising low [] = ⊤
AreRising low (r ∷ rs) = (low ≤ r.0) × (r.0 ≤ r.1) × AreRising (r.1 + 2) rs

-- the id lies in some of the ranges
abbrev pub is_in_some : ℕ → List (ℕ × ℕ) → Bool
is_in_some k [] = false
is_in_some k (r ∷ rs) = (nat_le r.0 k && nat_le k r.1) || is_in_some k rs

-- All holes of these ids: each is one, they rise, and an id lies in some exactly where the test says false.
pub record AreHoles (there : ℕ → Bool) (from to : ℕ) (rs : List (ℕ × ℕ)) : Type 0 where
  pub each : AllByRecursion (IsHole there from to) rs
  pub rising : AreRising from rs
  pub covered : (k : ℕ) → from ≤ k → k < to → is_in_some k rs ≡ not (there k)

-- a hole before which the test says true of each id
pub record IsLowestHole (there : ℕ → Bool) (from to : ℕ) (r : ℕ × ℕ) : Type 0 where
  pub hole : IsHole there from to r
  pub lowest : (k : ℕ) → from ≤ k → k < r.0 → there k ≡ true

-- the lowest hole, and None where the test says true of each id
abbrev pub IsFirstHole : (ℕ → Bool) → ℕ → ℕ → Option (ℕ × ℕ) → Type 0
IsFirstHole there from to None = (k : ℕ) → from ≤ k → k < to → there k ≡ true
IsFirstHole there from to (Some r) = IsLowestHole there from to r

-- this range, and the holes of the ids behind it
abbrev pub holes_from : (ℕ → Bool) → ℕ → Option (ℕ × ℕ) → List (ℕ × ℕ)
holes_from there to None = []
holes_from there to (Some r) = r ∷ holes there (r.1 + 1) (to - (r.1 + 1))

-- the list of holes has each hole, and nothing else
abbrev pub HolesAreMaximal : Type 0
HolesAreMaximal = (there : ℕ → Bool) (from count : ℕ) → AreHoles there from (from + count) (holes there from count)

-- the first hole heads the list, and behind it come the holes of the ids behind it
abbrev pub HolesBeginWithFirst : Type 0
HolesBeginWithFirst =
    (there : ℕ → Bool) (from to : ℕ) (first : Option (ℕ × ℕ)) → IsFirstHole there from to first
    → holes there from (to - from) ≡ holes_from there to first

-- the list asks the test of these ids alone
abbrev pub HolesAskWithin : Type 0
HolesAskWithin =
    (there other : ℕ → Bool) (from count : ℕ)
    → ((k : ℕ) → from ≤ k → k < from + count → there k ≡ other k)
    → holes there from count ≡ holes other from count
