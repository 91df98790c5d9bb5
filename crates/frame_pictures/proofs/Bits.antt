-- Values by the bits of a row.
use Rattle.std.proofs.Common.{◌≡◌, ℕ, zero, suc, ◌+◌, ◌-◌, ◌*◌, ◌/◌, ◌<◌, ◌≤◌, List, refl, ap, sym, ◌∙◌, arith}
use Rattle.std.specs.Prelude.{◌%◌, ◌^◌}
use Rattle.std.proofs.Math.Nat.{div-div-eq-div-mul, mod-one, div-one, pow-suc}
use Rattle.std.proofs.lemmas.Nat.{mod-pow-add}
use Rattle.frame_pictures.specs.Pixels.{row_bit, bits_from}

bit_there : (row : ℕ → ℕ) (j s : ℕ) → s < 8 → row_bit row (8 * j + s) ≡ row j / 2 ^ s % 2
bit_there row j s low =
    let at : (8 * j + s) / 8 ≡ j = omega (arith, low) in
    let place : (8 * j + s) % 8 ≡ s = omega (arith, low) in
    ap (λ i. row i / 2 ^ ((8 * j + s) % 8) % 2) at ∙ ap (λ k. row j / 2 ^ k % 2) place

-- the lowest bit of a value, and the others
lowest_and_others : (w n : ℕ) → w % 2 + 2 * (w / 2 % 2 ^ n) ≡ w % 2 ^ suc n
lowest_and_others w n =
    let split : w % 2 ^ (n + 1) ≡ (w / 2 % 2 ^ n) * 2 + w % 2 = mod-pow-add w n 1 in
    let same : n + 1 ≡ suc n = omega arith in
    let high : ℕ = w / 2 % 2 ^ n in
    let swapped : w % 2 + 2 * high ≡ high * 2 + w % 2 = omega arith in
    swapped ∙ sym split ∙ ap (λ m. w % 2 ^ m) same

-- bits of one byte
pub byte_bits : (row : ℕ → ℕ) (j s n : ℕ) → s + n ≤ 8 → bits_from row (8 * j + s) n ≡ row j / 2 ^ s % 2 ^ n
byte_bits row j s zero within = sym (mod-one (row j / 2 ^ s))
byte_bits row j s (suc n) within =
    let next : 8 * j + s + 1 ≡ 8 * j + suc s = omega arith in
    let halved : row j / 2 ^ suc s ≡ row j / 2 ^ s / 2 = ap (λ m. row j / m) (pow-suc 2 s) ∙ sym (div-div-eq-div-mul (row j) (2 ^ s) 2) in
    ap (λ b. b + 2 * bits_from row (8 * j + s + 1) n) (bit_there row j s (omega (arith, within)))
    ∙ ap (λ i. row j / 2 ^ s % 2 + 2 * bits_from row i n) next
    ∙ ap (λ b. row j / 2 ^ s % 2 + 2 * b) (byte_bits row j (suc s) n (omega (arith, within)) ∙ ap (λ m. m % 2 ^ n) halved)
    ∙ lowest_and_others (row j / 2 ^ s) n

-- the lower bits and those above them
bits_parts : (row : ℕ → ℕ) (i m n : ℕ) → bits_from row i (m + n) ≡ bits_from row i m + 2 ^ m * bits_from row (i + m) n
bits_parts row i zero n =
    let none : 0 + n ≡ n = omega arith in
    let same : i + 0 ≡ i = omega arith in
    let rest : ℕ = bits_from row i n in
    let one : rest ≡ 0 + 1 * rest = omega arith in
    ap (bits_from row i) none ∙ one ∙ ap (λ k. 0 + 1 * bits_from row k n) (sym same)
bits_parts row i (suc m) n =
    let more : suc m + n ≡ suc (m + n) = omega arith in
    let same : i + 1 + m ≡ i + suc m = omega arith in
    let first : ℕ = row_bit row i in
    let low : ℕ = bits_from row (i + 1) m in
    let high : ℕ = bits_from row (i + suc m) n in
    let power : ℕ = 2 ^ m in
    let doubled : 2 ^ suc m ≡ power * 2 = pow-suc 2 m in
    let factor : 2 ^ suc m * high ≡ 2 * (power * high) = ap (λ p. p * high) doubled ∙ omega arith in
    let product : ℕ = power * high in
    let joined : first + 2 * (low + product) ≡ first + 2 * low + 2 * product = omega arith in
    ap (bits_from row i) more
    ∙ ap (λ b. first + 2 * b) (bits_parts row (i + 1) m n ∙ ap (λ k. low + power * bits_from row k n) same)
    ∙ joined
    ∙ ap (λ p. first + 2 * low + p) (sym factor)

-- bits of two bytes, of which the first has those from bit s on
pub across : (row : ℕ → ℕ) (j s n : ℕ) → s < 8 → 8 ≤ n + s → n + s ≤ 16
    → bits_from row (8 * j + s) n ≡ row j / 2 ^ s % 2 ^ (8 - s) + 2 ^ (8 - s) * (row (j + 1) % 2 ^ (n + s - 8))
across row j s n low reaches within =
    let m : ℕ = 8 - s in
    let k : ℕ = n + s - 8 in
    let parts : n ≡ m + k = omega (arith, low, reaches) in
    let from : 8 * j + s + m ≡ 8 * (j + 1) + 0 = omega (arith, low) in
    ap (bits_from row (8 * j + s)) parts
    ∙ bits_parts row (8 * j + s) m k
    ∙ ap (λ b. b + 2 ^ m * bits_from row (8 * j + s + m) k) (byte_bits row j s m (omega (arith, low)))
    ∙ ap (λ i. row j / 2 ^ s % 2 ^ m + 2 ^ m * bits_from row i k) from
    ∙ ap (λ b. row j / 2 ^ s % 2 ^ m + 2 ^ m * b)
    (byte_bits row (j + 1) 0 k (omega (arith, within)) ∙ ap (λ w. w % 2 ^ k) (div-one (row (j + 1))))
