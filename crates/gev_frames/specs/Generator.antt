-- The generator of the test images: a linear congruential generator over numbers modulo 2^64.
use Rattle.std.specs.Prelude.{ℕ, zero, suc, ◌+◌, ◌*◌, ◌/◌, ◌%◌, ◌^◌, List, [], ◌∷◌}

-- the number after x
abbrev pub next : ℕ → ℕ
next x = (x * 6364136223846793005 + 1442695040888963407) % 2 ^ 64

-- what is drawn at x: the top 32 of the next number's 64 bits
abbrev pub draw : ℕ → ℕ
draw x = next x / 2 ^ 32

-- the number after so many draws from x on
unfoldable pub after_draws : ℕ → ℕ → ℕ
after_draws zero x = x
after_draws (suc n) x = after_draws n (next x)

-- the byte that is drawn at x: the top 8 of the 32 bits that are drawn
abbrev pub drawn_byte : ℕ → ℕ
drawn_byte x = draw x / 2 ^ 24

-- so many bytes, drawn one after the other from x on
unfoldable pub noise : ℕ → ℕ → List ℕ
noise zero x = []
noise (suc n) x = drawn_byte x ∷ noise n (next x)
