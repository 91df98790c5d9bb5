-- Bytes lent to be changed in place.
use Rattle.std.specs.Prelude.{ℕ, List, ◌++◌, length, take, drop}
use Rattle.std.specs.Borrow.{Lends, MutBor, Fml, Array, u8}
use Rattle.gev_types.specs.contracts.bytes.Bytes.{the_row}

-- The new bytes in the place of the old ones, whose number stays. A slice keeps its length, so these
-- are the new bytes themselves.
abbrev pub refilled : List ℕ → List ℕ → List ℕ
refilled old new = take (length old) (new ++ drop (length new) old)

-- the bytes end as the last value behind r
abbrev pub LendsBytes : MutBor (List ℕ) → MutBor (List ℕ) → Fml
LendsBytes b r = Lends the_row (Array u8 0) b r (refilled b.now)
