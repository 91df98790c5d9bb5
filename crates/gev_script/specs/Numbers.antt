-- Numbers and hex digits in a line.
use Rattle.std.specs.Prelude.{ℕ, ◌^◌, ◌%◌, ◌==◌, ◌&&◌, ◌||◌, not, nat_lt, nat_le, List, length, slice_index, Bool, Option, Some, None, Ok, Err, if◌then◌else◌}
use Rattle.std.specs.Char.{is_ascii_digit}
use Rattle.std.specs.List.{list_all}
use Rattle.std.specs.Str.Parse.{digits_value}
use Rattle.gev_script.specs.declared.kind.ScriptKind.TheVariants.{Number, Hex}
use Rattle.gev_script.specs.Words.{Read}

-- decimal digits, at least one, without a leading zero
abbrev pub is_number : List ℕ → Bool
is_number word =
    nat_le 1 (length word) && (length word == 1 || not (slice_index word 0 == 48)) && list_all is_ascii_digit word

-- the number that a word is, if it's one of at most 64 bits
abbrev pub value_of : List ℕ → Option ℕ
value_of word = if is_number word && nat_lt (digits_value 10 word) (2 ^ 64) then Some (digits_value 10 word) else None

-- the number, if there is one within these bounds
abbrev pub bounded : ℕ → ℕ → Option ℕ → Read ℕ
bounded low high None = Err Number
bounded low high (Some n) = if nat_le low n && nat_le n high then Ok n else Err Number

abbrev pub number_in : ℕ → ℕ → List ℕ → Read ℕ
number_in low high word = bounded low high (value_of word)

-- a lower-case hex digit
abbrev pub is_hex_digit : ℕ → Bool
is_hex_digit b = nat_le 48 b && nat_le b 57 || nat_le 97 b && nat_le b 102

-- two digits for each byte, and at least one byte
abbrev pub is_hex : List ℕ → Bool
is_hex word = nat_le 1 (length word) && length word % 2 == 0 && list_all is_hex_digit word

abbrev pub hex_of : List ℕ → Read (List ℕ)
hex_of word = if is_hex word then Ok word else Err Hex
