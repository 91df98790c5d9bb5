-- Where the description of a camera's registers lies (GigE Vision 2.0, first and second URL): in the camera itself, as
-- `Local:<name>;<address>;<length>`.
use Rattle.std.specs.Prelude.{ℕ, ◌+◌, ◌-◌, ◌^◌, ◌≤◌, ◌==◌, ◌&&◌, ◌||◌, nat_le, not, Bool, if◌then◌else◌, List, ◌++◌, length, take, drop, slice_index, codes, Option, Some, None, option_map}
use Rattle.std.specs.List.{before_first}
use Rattle.std.specs.Result.{result_ok}
use Rattle.std.specs.Str.{str_eq_ignore_ascii_case}
use Rattle.byteorder.specs.Endian.{big_number}
use Rattle.hex.specs.Hex.{decode_sized}
use Rattle.camera_words.specs.Parts.{before_byte, behind_byte}
use Rattle.camera_description.specs.declared.location.Location.{Location}

-- the bytes of a URL's register
abbrev pub URL_SIZE : ℕ
URL_SIZE = 512

abbrev pub FIRST_URL : ℕ
FIRST_URL = 0x0200

abbrev pub SECOND_URL : ℕ
SECOND_URL = 0x0400

-- A URL ends at a zero byte or at a `?`.
abbrev pub ends_url : ℕ → Bool
ends_url byte = (byte == 0) || (byte == 0x3F)

abbrev pub url_text : List ℕ → List ℕ
url_text bytes = before_first ends_url bytes

-- what follows `Local:`, in either case
abbrev pub behind_scheme : List ℕ → Option (List ℕ)
behind_scheme text =
    if nat_le 6 (length text) && str_eq_ignore_ascii_case (take 6 text) (codes "local:") then Some (drop 6 text) else None

abbrev pub semicolon : ℕ
semicolon = 0x3B

-- ---- numbers

-- `0x` or `0X`
abbrev pub has_prefix : List ℕ → Bool
has_prefix word = nat_le 2 (length word) && (slice_index word 0 == 0x30) && ((slice_index word 1 == 0x78) || (slice_index word 1 == 0x58))

abbrev pub without_prefix : List ℕ → List ℕ
without_prefix word = if has_prefix word then drop 2 word else word

-- with zeros in front, so that there are eight digits
abbrev pub padded : List ℕ → List ℕ
padded digits = take (8 - length digits) (codes "00000000") ++ digits

-- the number that 1 to 8 hex digits of either case spell
abbrev pub number_of : List ℕ → Option ℕ
number_of digits =
    if nat_le 1 (length digits) && nat_le (length digits) 8
    then option_map (big_number 4) (result_ok (decode_sized (padded digits) 4)) else None

abbrev pub number_in : List ℕ → Option ℕ
number_in word = number_of (without_prefix word)

-- ---- the whole

-- some bytes, the last of which lies below 2^32
abbrev pub located : Option ℕ → Option ℕ → Option Location
located None count = None
located (Some address) None = None
located (Some address) (Some count) =
    if not (count == 0) && nat_le (address + count) (2 ^ 32) then Some (record { address = address; size = count }) else None

abbrev pub with_length : List ℕ → Option (List ℕ) → Option Location
with_length rest None = None
with_length rest (Some word) = located (number_in (before_byte semicolon rest)) (number_in word)

abbrev pub with_address : Option (List ℕ) → Option Location
with_address None = None
with_address (Some rest) = with_length rest (behind_byte semicolon rest)

abbrev pub with_name : Option (List ℕ) → Option Location
with_name None = None
with_name (Some rest) = with_address (behind_byte semicolon rest)

-- where the description lies by the bytes of a URL's register, if it lies in the camera
abbrev pub location_in : List ℕ → Option Location
location_in bytes = with_name (behind_scheme (url_text bytes))

-- the last byte of a description lies below 2^32
abbrev pub IsWithin : Location → Type 0
IsWithin location = location.address + location.size ≤ 2 ^ 32
