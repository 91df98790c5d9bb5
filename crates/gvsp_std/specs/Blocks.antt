-- Which block an id of 16 bits names (GigE Vision 1.x, GVSP packet header). Block ids go from 1 to
-- 65,535 and then to 1 again; an id names the block near the greatest one so far.
use Rattle.std.specs.Prelude.{◌≡◌, ℕ, ◌+◌, ◌-◌, ◌%◌, ◌≤◌, nat_le, ◌==◌, if◌then◌else◌, Option, Some, None}

-- how many ids there are
abbrev pub cycle : ℕ
cycle = 65535

-- How far a block may be from the greatest before it. Among twice this many blocks and one each id
-- stands once.
abbrev pub reach : ℕ
reach = 32767

-- the id of a block from 1 on
abbrev pub narrow : ℕ → ℕ
narrow b = (b - 1) % cycle + 1

-- The block, from 1 on, has this id and is near the greatest block.
pub record IsNear (top s b : ℕ) : Type 0 where
  pub from_one : 1 ≤ b
  pub bits : narrow b ≡ s
  pub not_above : b ≤ top + reach
  pub not_below : top ≤ b + reach

-- A block that may come after these: one of the first round at the start, and one near the greatest
-- block from then on.
pub data IsInReach (top b : ℕ) : Type 0 where
  first : top ≡ 0 → b ≤ cycle → IsInReach top b
  later : 1 ≤ top → b ≤ top + reach → top ≤ b + reach → IsInReach top b

-- how far the next block with this id is, from the greatest block on
abbrev pub ahead : ℕ → ℕ → ℕ
ahead top s = (s + cycle - narrow top) % cycle

-- The block near the greatest one that has this id: none where that would be a number below 1.
abbrev pub near : ℕ → ℕ → Option ℕ
near top s =
    if nat_le (ahead top s) reach then Some (top + ahead top s)
    else if nat_le (cycle + 1) (top + ahead top s) then Some (top + ahead top s - cycle) else None

-- The block that an id names. The greatest block is 0 before the first.
abbrev pub chosen : ℕ → ℕ → Option ℕ
chosen top s = if top == 0 then Some s else near top s
