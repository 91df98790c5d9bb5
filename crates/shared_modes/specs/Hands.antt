-- What a pass has in hand behind a claim in a buffer handling mode.
use Rattle.std.specs.Prelude.{ℕ, Bool, Option, Some, None}
use Rattle.buffer_words.specs.Passes.{Token, SameHands, Gets}

-- The place of the answer, where there is one, whether it was in the pool or dropped.
abbrev pub GetsFor : Option (ℕ × Bool) → Token → Token → Type 0
GetsFor None s t = SameHands s t
GetsFor (Some got) s t = Gets got.0 s t
