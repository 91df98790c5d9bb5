-- Payloads with fewer bytes than a payload may have: only the last one of an image is right so.
use Rattle.std.specs.Prelude.{◌≡◌, ⊤, ℕ, ◌<◌, ◌≤◌, ◌==◌, ◌&&◌, ◌||◌, nat_le, nat_lt, List, [], ◌∷◌, length, Bool, true, false, Option, Some, None, if◌then◌else◌}
use Rattle.std.specs.List.{AllByRecursion}
use Rattle.stream_packets.specs.Packets.{StreamPacket, leader, payload, trailer, notice}
use Rattle.block_assembly.specs.declared.progress.Short.{Short}

-- a payload has p bytes or more
abbrev pub IsFull : ℕ → StreamPacket → Type 0
IsFull p (leader h i) = ⊤
IsFull p (payload h d) = p ≤ length d
IsFull p (trailer h y) = ⊤
IsFull p (notice h) = ⊤

-- a payload of fewer bytes has an id from `low` on
abbrev pub IsShortFrom : ℕ → ℕ → StreamPacket → Type 0
IsShortFrom p low (leader h i) = ⊤
IsShortFrom p low (payload h d) = length d < p → low ≤ h.id
IsShortFrom p low (trailer h y) = ⊤
IsShortFrom p low (notice h) = ⊤

-- a payload of fewer bytes has this id and length
abbrev pub has_short : ℕ → Short → List StreamPacket → Bool
has_short p s [] = false
has_short p s (leader h i ∷ xs) = has_short p s xs
has_short p s (payload h d ∷ xs) = (h.id == s.id && length d == s.len && nat_lt (length d) p) || has_short p s xs
has_short p s (trailer h y ∷ xs) = has_short p s xs
has_short p s (notice h ∷ xs) = has_short p s xs

-- of the payloads with fewer than p bytes, the one with the lowest id
pub record IsLowestShort (p : ℕ) (ks : List StreamPacket) (s : Short) : Type 0 where
  pub there : has_short p s ks ≡ true
  pub lowest : AllByRecursion (IsShortFrom p s.id) ks

-- None where there is no such payload
abbrev pub IsShortest : ℕ → List StreamPacket → Option Short → Type 0
IsShortest p ks None = AllByRecursion (IsFull p) ks
IsShortest p ks (Some s) = IsLowestShort p ks s

-- beside another short payload
abbrev pub lower_short : Short → Option Short → Option Short
lower_short new None = Some new
lower_short new (Some s) = if nat_lt new.id s.id then Some new else Some s

-- beside one more payload
abbrev pub shortest_with : ℕ → Short → Option Short → Option Short
shortest_with p new o = if nat_lt new.len p then lower_short new o else o

-- The payloads from 1 to n are as long as they have to be, if all of them are there: no short one is
-- before the last, and the last one has the rest.
abbrev pub are_long : ℕ → ℕ → Option Short → Bool
are_long n rest None = true
are_long n rest (Some s) = nat_lt n s.id || (s.id == n && nat_le rest s.len)
