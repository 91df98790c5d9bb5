-- What stands before a byte of a text, and behind it.
use Rattle.std.specs.Prelude.{ℕ, ◌+◌, ◌==◌, List, drop, position, Option, option_map}
use Rattle.std.specs.List.{before_first}

-- what precedes the first such byte, or all
abbrev pub before_byte : ℕ → List ℕ → List ℕ
before_byte byte text = before_first (λ b. b == byte) text

-- what follows the first such byte, if there is one
abbrev pub behind_byte : ℕ → List ℕ → Option (List ℕ)
behind_byte byte text = option_map (λ (place : ℕ). drop (place + 1) text) (position (λ b. b == byte) text)
