-- The lowest place of a pool's word.
use Rattle.std.proofs.Common.{w64, ◌≡◌, ◌⊎◌, ℕ, ◌^◌, ◌<◌, ◌≤◌, inl, inr, arith}
use Rattle.std.proofs.lemmas.Bool.{cases_lt}
use Rattle.std.proofs.lemmas.Nat.Bits.{bit_at_above, bit_at-trailing_zeros}
use Rattle.std.specs.Int.{bit_at, trailing_zeros}

-- the lowest bit of a pool's word is a place's
pub record IsLowest (n t : ℕ) : Type 0 where
  pub in_range : t < 15
  pub lowest : bit_at n t ≡ 1
  pub none_below : (j : ℕ) → j < t → bit_at n j ≡ 0

pub lowest_small : (n : ℕ) → 0 < n → n < 2 ^ 15 → IsLowest n (trailing_zeros w64 n)
lowest_small n some small = go (cases_lt (trailing_zeros w64 n) 15)
  where
    all : (trailing_zeros w64 n < 64) × (bit_at n (trailing_zeros w64 n) ≡ 1) × ((i : ℕ) → i < trailing_zeros w64 n → bit_at n i ≡ 0)
    all = bit_at-trailing_zeros w64 n some (omega arith)

    go : (trailing_zeros w64 n < 15) ⊎ (15 ≤ trailing_zeros w64 n) → IsLowest n (trailing_zeros w64 n)
    go (inl lt) = record { in_range = lt; lowest = all.1; none_below = all.2 }
    go (inr le) = absurd (omega (arith, all.1, bit_at_above n 15 (trailing_zeros w64 n) small le))
