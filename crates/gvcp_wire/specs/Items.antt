-- Lists of items of one size, in the body of a message.
use Rattle.std.specs.Prelude.{◌≡◌, ℕ, ◌*◌, ◌≤◌, List, length}

-- The bytes are items of one size, from 1 to a largest number of them.
pub record AreItems (size most : ℕ) (bytes : List ℕ) : Type 0 where
  pub count : ℕ
  pub some : 1 ≤ count
  pub few : count ≤ most
  pub whole : length bytes ≡ size * count
