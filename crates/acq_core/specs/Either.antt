-- Ids that need not be asked for.
use Rattle.std.specs.Prelude.{ℕ, ◌||◌, List, Bool}
use Rattle.packet_bitmap.specs.Bits.{has}

-- the id is set in one of two bitmaps, or in both
abbrev pub in_either : List Bool → List Bool → ℕ → Bool
in_either kept refused id = has kept id || has refused id
