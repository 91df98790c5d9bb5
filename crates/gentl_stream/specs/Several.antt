-- The buffers of several places that a pass has in its hands, and that it gives away.
use Rattle.std.specs.Prelude.{◌≡◌, ℕ, ◌≤◌, List}
use Rattle.board_machine.specs.Places.{times}
use Rattle.buffer_words.specs.Passes.{Token, IsWhole, slot_at, gone, SamePlace}

-- A buffer is set down at each of these places, and each stands once among them.
pub record AreWhole (s : Token) (is : List ℕ) : Type 0 where
  pub single : (i : ℕ) → times i is ≤ 1
  pub each : (i : ℕ) → 1 ≤ times i is → IsWhole s i

-- The pass gives these places away, and what it has of others is as it was.
pub record Leaves (is : List ℕ) (s t : Token) : Type 0 where
  pub given : (i : ℕ) → 1 ≤ times i is → slot_at t i ≡ gone
  pub others : (i : ℕ) → times i is ≡ 0 → SamePlace i s t
