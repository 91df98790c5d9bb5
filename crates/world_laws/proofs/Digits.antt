-- What decodes from the hex digits of bytes are these bytes.
use Rattle.std.proofs.Common.{◌≡◌, ◌⊎◌, inl, inr, ℕ, zero, suc, ◌/◌, ◌%◌, ◌<◌, ◌≤◌, true, List, [], ◌∷◌, get_or, Ok, subst, arith}
use Rattle.std.specs.List.{AllPass}
use Rattle.std.proofs.lemmas.Bool.{cases_lt}
use Rattle.std.proofs.lemmas.List.{get_or_past}
use Rattle.std.proofs.lemmas.List.Elements.{All-head, All-tail}
use Rattle.hex.specs.Hex.{lower_digits, encode_with, encode_lower, is_hex_digit, decode_of, IsBytes}
use Rattle.hex.proofs.HexLemmas.{decode_of-ok, decode_of-same, decode_of-encode_lower}

abbrev IsDigit : ℕ → Type 0
IsDigit k = is_hex_digit k ≡ true

-- the table has sixteen digits, and past them no other
digit_within : (k : ℕ) → IsDigit (get_or lower_digits k 0) → k < 16
digit_within k digit = go (cases_lt k 16)
  where
    go : (k < 16) ⊎ (16 ≤ k) → k < 16
    go (inl within) = within
    go (inr past) = let none : IsDigit 0 = subst IsDigit (get_or_past lower_digits k 0 past) digit in absurd cc

front_byte : (b : ℕ) (rest : List ℕ) → b < 256 → IsBytes rest → IsBytes (b ∷ rest)
front_byte b rest small all zero = small
front_byte b rest small all (suc i) = all i

bytes_of_digits : (bytes : List ℕ) → AllPass is_hex_digit (encode_lower bytes) → IsBytes bytes
unfolding encode_with
bytes_of_digits [] digits i = omega arith
bytes_of_digits (b ∷ rest) digits i =
    let high : ℕ = get_or lower_digits (b / 16) 0 in
    let low : ℕ = get_or lower_digits (b % 16) 0 in
    let within : b / 16 < 16 = digit_within (b / 16) (All-head IsDigit high (low ∷ encode_lower rest) digits) in
    front_byte b rest (omega (arith, within)) (bytes_of_digits rest (All-tail IsDigit low (encode_lower rest) (All-tail IsDigit high (low ∷ encode_lower rest) digits))) i

pub read_back : (bytes others : List ℕ) → decode_of (encode_lower bytes) ≡ Ok others → others ≡ bytes
read_back bytes others decoded =
    decode_of-same (encode_lower bytes) others bytes decoded
    (decode_of-encode_lower bytes (bytes_of_digits bytes (decode_of-ok (encode_lower bytes) others decoded).1))
