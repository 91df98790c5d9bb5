-- Bytes that hex digits spell.
use Rattle.std.proofs.Common.{◌≡◌, ◌≢◌, ℕ, suc, ◌+◌, ◌*◌, ◌<◌, ◌≤◌, ◌%◌, ◌⊎◌, inl, inr, true, List, [], ◌∷◌, length, slice_index, set, Some, Ok, refl, sym, ap, subst, ◌∙◌, arith}
use Rattle.std.proofs.lemmas.Bool.{cases_eq}
use Rattle.std.proofs.lemmas.List.{get_or-set_same, get_or-set_other}
use Rattle.std.specs.Prelude.{IsOk}
use Rattle.hex.specs.Hex.{decode_of, decode_pairs, digit_or_error, hex_digit_value, is_hex_digit, pair_value, value_at}
use Rattle.hex.proofs.Pairs.{cons_byte, decode_pairs-ok_pair}
use Rattle.hex.proofs.HexLemmas.{decode_of-even, decode_of-ok}
use Rattle.script_replay.proofs.Decoding.{ok_value}

-- two digits that are read spell this byte
pub pair_spelled : (a b high low i : ℕ) → hex_digit_value a ≡ Some high → hex_digit_value b ≡ Some low → pair_value a b i ≡ Ok (high * 16 + low)
pair_spelled a b high low i first second =
    let read : value_at a i ≡ Ok high = ap (digit_or_error a i) first in
    let read_too : value_at b (i + 1) ≡ Ok low = ap (digit_or_error b (i + 1)) second in
    rw (read, read_too) refl

-- Each of the first n bytes is what its two digits spell.
abbrev pub AreSpelled : List ℕ → List ℕ → ℕ → Type 0
AreSpelled digits bytes n = (k : ℕ) → k < n → (i : ℕ) → pair_value (slice_index digits (2 * k)) (slice_index digits (2 * k + 1)) i ≡ Ok (slice_index bytes k)

spelled_rest : (a b x : ℕ) (digits bytes : List ℕ) (n : ℕ) → AreSpelled (a ∷ b ∷ digits) (x ∷ bytes) (suc n) → AreSpelled digits bytes n
spelled_rest a b x digits bytes n all k low i =
    let twice : 2 * suc k ≡ suc (suc (2 * k)) = omega arith in
    let next : 2 * suc k + 1 ≡ suc (suc (2 * k + 1)) = omega arith in
    let here : pair_value (slice_index (a ∷ b ∷ digits) (2 * suc k)) (slice_index (a ∷ b ∷ digits) (2 * suc k + 1)) i ≡ Ok (slice_index bytes k) = all (suc k) (omega (arith, low)) i in
    sym (ap (λ m. pair_value (slice_index (a ∷ b ∷ digits) m) (slice_index (a ∷ b ∷ digits) (2 * suc k + 1)) i) twice
    ∙ ap (λ m. pair_value (slice_index digits (2 * k)) (slice_index (a ∷ b ∷ digits) m) i) next)
    ∙ here

pairs_spell : (i : ℕ) (digits bytes : List ℕ) → length digits ≡ 2 * length bytes → AreSpelled digits bytes (length bytes) → decode_pairs i digits ≡ Ok bytes
unfolding decode_pairs
pairs_spell i [] [] same all = refl
pairs_spell i [] (x ∷ bytes) same all = absurd (omega (arith, same))
pairs_spell i (a ∷ []) [] same all = absurd (omega (arith, same))
pairs_spell i (a ∷ []) (x ∷ bytes) same all = absurd (omega (arith, same))
pairs_spell i (a ∷ b ∷ digits) [] same all = absurd (omega (arith, same))
pairs_spell i (a ∷ b ∷ digits) (x ∷ bytes) same all =
    decode_pairs-ok_pair i a b x digits (all 0 (omega arith) i)
    ∙ ap (cons_byte x) (pairs_spell (i + 2) digits bytes (omega (arith, same)) (spelled_rest a b x digits bytes (length bytes) all))

-- Where each byte is spelled, the digits decode to them.
pub all_spelled : (digits bytes : List ℕ) (n : ℕ) → length bytes ≤ n → length digits ≡ 2 * length bytes → AreSpelled digits bytes n → decode_of digits ≡ Ok bytes
all_spelled digits bytes n whole same all =
    let even : length digits % 2 ≡ 0 = omega (arith, same) in
    decode_of-even digits even ∙ pairs_spell 0 digits bytes same (λ k low i. all k (omega (arith, low, whole)) i)

-- one more byte is spelled
pub spelled_more : (digits bytes : List ℕ) (n x : ℕ) → n < length bytes → ((i : ℕ) → pair_value (slice_index digits (2 * n)) (slice_index digits (2 * n + 1)) i ≡ Ok x) → AreSpelled digits bytes n → AreSpelled digits (set bytes n x) (n + 1)
spelled_more digits bytes n x within here before k low i = go (cases_eq k n)
  where
    go : (k ≡ n) ⊎ (k ≢ n) → pair_value (slice_index digits (2 * k)) (slice_index digits (2 * k + 1)) i ≡ Ok (slice_index (set bytes n x) k)
    go (inl e) =
        subst (λ m. pair_value (slice_index digits (2 * m)) (slice_index digits (2 * m + 1)) i ≡ Ok (slice_index (set bytes n x) m)) (sym e)
        (here i ∙ ap Ok (sym (get_or-set_same bytes n x 0 within)))
    go (inr apart) = before k (omega (arith, low, apart)) i ∙ ap Ok (sym (get_or-set_other bytes n k x 0 apart))

-- what is spelled is digits
pub all_digits : (digits : List ℕ) → IsOk (decode_of digits) → (k : ℕ) → k < length digits → is_hex_digit (slice_index digits k) ≡ true
all_digits digits spelled k low =
    let is = ok_value (decode_of digits) spelled in
    (decode_of-ok digits is.0 is.1).1 k 0 low
