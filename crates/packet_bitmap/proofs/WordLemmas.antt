-- The first wanted bit of one word.
use Rattle.std.proofs.Common.{◌≡◌, ◌⊎◌, inl, inr, ℕ, ◌+◌, ◌-◌, ◌/◌, ◌%◌, ◌^◌, ◌<◌, ◌≤◌, Bool, true, false, refl, sym, ◌∙◌, ap, arith}
use Rattle.std.specs.Prelude.{◌==◌, not, if◌then◌else◌}
use Rattle.std.specs.Int.{bit_at, bit_not, trailing_zeros, w64}
use Rattle.std.proofs.Math.Nat.{div-div-eq-div-mul}
use Rattle.std.proofs.lemmas.Nat.{pow-add}
use Rattle.std.proofs.lemmas.Nat.Bits.{bit_at-lt, bit_at_not, bit_at-trailing_zeros, bit_at_above, bit_at-zero}
use Rattle.std.proofs.lemmas.Bool.{cases_lt}
use Rattle.packet_bitmap.specs.Bits.{IsNextBit}

-- the word whose set bits are the wanted ones
abbrev pub marked : ℕ → Bool → ℕ
marked word wanted = if wanted then word else bit_not w64 word

-- a word shifted down
shifted : (n k i : ℕ) → bit_at (n / 2 ^ k) i ≡ bit_at n (k + i)
shifted n k i =
    let quotient : n / 2 ^ k / 2 ^ i ≡ n / 2 ^ (k + i) = div-div-eq-div-mul n (2 ^ k) (2 ^ i) ∙ ap (λ (d : ℕ). n / d) (sym (pow-add 2 k i)) in
    ap (λ (q : ℕ). q % 2) quotient

-- a bit as a truth value
set_is_one : (x : ℕ) → x ≡ 1 → (x == 1) ≡ true
set_is_one x e = rw e refl

clear_is_zero : (x : ℕ) → x ≡ 0 → (x == 1) ≡ false
clear_is_zero x e = rw e refl

-- a set bit of the marked word is wanted
marked_set : (word bit : ℕ) (wanted : Bool) → word < 2 ^ 64 → bit < 64 → bit_at (marked word wanted) bit ≡ 1 → (bit_at word bit == 1) ≡ wanted
marked_set word bit true small inside e = set_is_one (bit_at word bit) e
marked_set word bit false small inside e =
    clear_is_zero (bit_at word bit) (omega (arith, bit_at_not w64 word bit small inside, bit_at-lt word bit))

-- a clear one isn't
marked_clear : (word bit : ℕ) (wanted : Bool) → word < 2 ^ 64 → bit < 64 → bit_at (marked word wanted) bit ≡ 0 → (bit_at word bit == 1) ≡ not wanted
marked_clear word bit true small inside e = clear_is_zero (bit_at word bit) e
marked_clear word bit false small inside e =
    set_is_one (bit_at word bit) (omega (arith, bit_at_not w64 word bit small inside, bit_at-lt word bit))

-- a bit from `from` on is one of the shifted word
bit_from : (n from bit : ℕ) → from ≤ bit → bit_at n bit ≡ bit_at (n / 2 ^ from) (bit - from)
bit_from n from bit low =
    let same : from + (bit - from) ≡ bit = omega arith in
    ap (λ (i : ℕ). bit_at n i) (sym same) ∙ sym (shifted n from (bit - from))

-- nothing is marked from `from` on
pub none_in : (word from : ℕ) (wanted : Bool) → word < 2 ^ 64 → marked word wanted / 2 ^ from ≡ 0 → (bit : ℕ) → from ≤ bit → bit < 64 → (bit_at word bit == 1) ≡ not wanted
none_in word from wanted small none bit low high =
    marked_clear word bit wanted small high
    (bit_from (marked word wanted) from bit low ∙ ap (λ (n : ℕ). bit_at n (bit - from)) none ∙ bit_at-zero (bit - from))

-- the lowest bit that is marked from `from` on
pub first_in : (word from : ℕ) (wanted : Bool) → word < 2 ^ 64 → marked word wanted < 2 ^ 64 → 0 < marked word wanted / 2 ^ from → marked word wanted / 2 ^ from < 2 ^ 64 → IsNextBit word wanted from (from + trailing_zeros w64 (marked word wanted / 2 ^ from))
first_in word from wanted small bounded some fits =
    let zeros : ℕ = trailing_zeros w64 (marked word wanted / 2 ^ from) in
    let lowest = bit_at-trailing_zeros w64 (marked word wanted / 2 ^ from) some fits in
    let here : bit_at (marked word wanted) (from + zeros) ≡ 1 = sym (shifted (marked word wanted) from zeros) ∙ lowest.1 in
    let inside : from + zeros < 64 = below (marked word wanted) (from + zeros) bounded here in
    record {
      low = omega arith;
      high = inside;
      here = marked_set word (from + zeros) wanted small inside here;
      before = λ bit low high. marked_clear word bit wanted small (omega (arith, inside))
          (bit_from (marked word wanted) from bit low ∙ lowest.2 (bit - from) (omega arith));
    } where
      below : (n i : ℕ) → n < 2 ^ 64 → bit_at n i ≡ 1 → i < 64
      below n i fits set = go (cases_lt i 64) where
        go : (i < 64) ⊎ (64 ≤ i) → i < 64
        go (inl lt) = lt
        go (inr ge) = absurd (omega (arith, bit_at_above n 64 i fits ge))
