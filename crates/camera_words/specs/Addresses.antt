-- An IPv4 address as a word: four decimal numbers of 0 to 255 without leading zeros, joined by dots.
use Rattle.std.specs.Prelude.{ℕ, List, [], ◌∷◌, Option, Some, None}
use Rattle.std.specs.Result.{result_ok}
use Rattle.byteorder.specs.Endian.{big_number}
use Rattle.gev_script.specs.Numbers.{number_in}
use Rattle.camera_words.specs.Parts.{before_byte, behind_byte}

abbrev pub dot : ℕ
dot = 0x2E

abbrev pub byte_in : List ℕ → Option ℕ
byte_in word = result_ok (number_in 0 255 word)

-- the number whose bytes, the highest first, are these
abbrev pub joined : Option ℕ → Option ℕ → Option ℕ → Option ℕ → Option ℕ
joined (Some a) (Some b) (Some c) (Some d) = Some (big_number 4 (a ∷ b ∷ c ∷ d ∷ []))
joined _ _ _ _ = None

abbrev pub behind_third : List ℕ → List ℕ → List ℕ → Option (List ℕ) → Option ℕ
behind_third first second third None = None
behind_third first second third (Some fourth) = joined (byte_in first) (byte_in second) (byte_in (before_byte dot third)) (byte_in fourth)

abbrev pub behind_second : List ℕ → List ℕ → Option (List ℕ) → Option ℕ
behind_second first second None = None
behind_second first second (Some third) = behind_third first (before_byte dot second) third (behind_byte dot third)

abbrev pub behind_first : List ℕ → Option (List ℕ) → Option ℕ
behind_first first None = None
behind_first first (Some second) = behind_second (before_byte dot first) second (behind_byte dot second)

-- the address that a word is, if it is one
abbrev pub address_in : List ℕ → Option ℕ
address_in word = behind_first word (behind_byte dot word)
