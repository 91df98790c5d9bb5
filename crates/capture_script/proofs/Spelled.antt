-- The digits of a datagram as a line.
use Rattle.std.proofs.Common.{◌≡◌, ℕ, suc, ◌*◌, ◌/◌, ◌%◌, ◌<◌, ◌≤◌, true, List, [], ◌∷◌, length, get_or, refl, arith}
use Rattle.std.specs.Prelude.{slice_index}
use Rattle.std.specs.List.{list_all}
use Rattle.std.proofs.lemmas.Bool.{le-leb, eq-eqb, and_from}
use Rattle.std.proofs.lemmas.List.Sums.{AllPass-from_list_all}
use Rattle.hex.specs.Hex.{encode_with, encode_lower, lower_digits}
use Rattle.hex.proofs.HexLemmas.{length-encode_with}
use Rattle.gev_script.specs.Numbers.{is_hex_digit}
use Rattle.gev_script.specs.Spelling.{IsDatagram}

abbrev AreSmall : List ℕ → Type 0
AreSmall bytes = (i : ℕ) → slice_index bytes i < 256

digit_is_hex : (k : ℕ) → k < 16 → is_hex_digit (get_or lower_digits k 0) ≡ true
digit_is_hex k h = AllPass-from_list_all is_hex_digit lower_digits refl k 0 h

high_digit : (b : ℕ) → b < 256 → b / 16 < 16
high_digit b h = omega arith

low_digit : (b : ℕ) → b % 16 < 16
low_digit b = omega arith

encoded_is_hex : (bytes : List ℕ) → AreSmall bytes → list_all is_hex_digit (encode_lower bytes) ≡ true
unfolding encode_with
encoded_is_hex [] h = refl
encoded_is_hex (b ∷ rest) h =
    and_from _ _ (digit_is_hex (b / 16) (high_digit b (h 0)))
    (and_from _ _ (digit_is_hex (b % 16) (low_digit b)) (encoded_is_hex rest (λ i. h (suc i))))

twice_is_even : (n m : ℕ) → n ≡ 2 * m → n % 2 ≡ 0
twice_is_even n m e = omega arith

-- the digits of a datagram of 1 to 9,999 bytes
pub datagram_fits : (bytes : List ℕ) → AreSmall bytes → 1 ≤ length bytes → length bytes ≤ 9999 → IsDatagram (encode_lower bytes)
datagram_fits bytes small some few =
    let wide : length (encode_lower bytes) ≡ 2 * length bytes = length-encode_with lower_digits bytes in
    record {
      hex =
          and_from _ _
          (and_from _ _ (le-leb 1 (length (encode_lower bytes)) (omega arith)) (eq-eqb (length (encode_lower bytes) % 2) 0 (twice_is_even _ _ wide)))
          (encoded_is_hex bytes small);
      short = omega arith;
    }
