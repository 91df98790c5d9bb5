-- What a clock tells of its moments, and a link of its receives. None means that it tells nothing, or nothing
-- any more.
use Rattle.std.specs.Prelude.{◌≡◌, ⊤, ℕ, zero, suc, ◌+◌, ◌-◌, ◌^◌, ◌≤◌, ◌==◌, nat_lt, if◌then◌else◌, List, [], ◌∷◌, ◌++◌, length, slice_index, Option, Some, None}

-- This was told after those. What tells nothing never tells; what tells goes on with it for 2 ^ 64 - 1 members
-- at least.
abbrev pub Tells : {A : Type 0} → Option (List A) → Option (List A) → A → Type 0
Tells None None member = ⊤
Tells None (Some new) member = ⊥
Tells (Some old) None member = length old ≡ 2 ^ 64 - 1
Tells (Some old) (Some new) member = new ≡ old ++ member ∷ []

-- These were told one after the other, after those that were told before. What told, and tells nothing any
-- more, told 2 ^ 64 - 1 members at least.
abbrev pub TellsEach : {A : Type 0} → Option (List A) → Option (List A) → List A → Type 0
TellsEach None None members = ⊤
TellsEach None (Some new) members = ⊥
TellsEach (Some old) None members = 2 ^ 64 - 1 ≤ length old + length members
TellsEach (Some old) (Some new) members = new ≡ old ++ members

-- ---- a clock in memory

pub record ClockState : Type 0 where
  pub moments : List ℕ
  -- how many moments were told; None: more than are counted
  pub count : Option ℕ

-- the last of these moments, and 0 where there is none
abbrev pub last_moment : List ℕ → ℕ
last_moment moments = if length moments == 0 then 0 else slice_index moments (length moments - 1)

-- the moment that is told after so many others
abbrev pub moment_at : List ℕ → ℕ → ℕ
moment_at moments n = if nat_lt n (length moments) then slice_index moments n else last_moment moments

-- the first so many moments that are told
abbrev pub told_by : List ℕ → ℕ → List ℕ
told_by moments zero = []
told_by moments (suc n) = told_by moments n ++ moment_at moments n ∷ []
