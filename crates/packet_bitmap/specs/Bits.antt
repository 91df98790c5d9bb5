-- A set of ids as a list of truth values, and as words of 64 bits.
use Rattle.std.specs.Prelude.{◌≡◌, ℕ, zero, suc, ◌+◌, ◌/◌, ◌%◌, ◌^◌, ◌<◌, ◌≤◌, ◌==◌, List, [], ◌∷◌, ◌++◌, length, slice_index, slice_index_or, Bool, false, not, Option, Some, None}
use Rattle.std.specs.Int.{bit_at}

-- whether the id is set; ids past the last are clear
abbrev pub has : List Bool → ℕ → Bool
has bits id = slice_index_or bits id false

-- some id up to the top is clear
pub record HasClear (bits : List Bool) (top : ℕ) : Type 0 where
  pub id : ℕ
  pub within : id ≤ top
  pub clear : has bits id ≡ false

-- the bit of the id in the words: bit 0 of a word is its lowest
abbrev pub is_set : List ℕ → ℕ → Bool
is_set words id = bit_at (slice_index words (id / 64)) (id % 64) == 1

-- the first n bits of the words
unfoldable pub bits_of : List ℕ → ℕ → List Bool
bits_of words zero = []
bits_of words (suc n) = bits_of words n ++ is_set words n ∷ []

-- as many words as the ids take, and no bit past the last id
pub record AreBits (words : List ℕ) (ids : ℕ) : Type 0 where
  pub few : ids < 2 ^ 32
  pub count : length words ≡ (ids + 63) / 64
  pub clear : (id : ℕ) → ids ≤ id → is_set words id ≡ false

-- The first id from `from` on, below `to`, that is set or clear as wanted; else it is `to`.
pub record IsFirstWith (words : List ℕ) (wanted : Bool) (from to found : ℕ) : Type 0 where
  pub within : found ≤ to
  pub before : (id : ℕ) → from ≤ id → id < found → is_set words id ≡ not wanted
  pub here : found < to → is_set words found ≡ wanted
  pub after : found < to → from ≤ found

-- the bit of a word is as wanted, and from `from` on it is the first one
pub record IsNextBit (word : ℕ) (wanted : Bool) (from found : ℕ) : Type 0 where
  pub low : from ≤ found
  pub high : found < 64
  pub here : (bit_at word found == 1) ≡ wanted
  pub before : (bit : ℕ) → from ≤ bit → bit < found → (bit_at word bit == 1) ≡ not wanted

-- the first bit of a word from `from` on that is set or clear as wanted
abbrev pub IsFirstIn : ℕ → Bool → ℕ → Option ℕ → Type 0
IsFirstIn word wanted from None =
    (bit : ℕ) → from ≤ bit → bit < 64 → (bit_at word bit == 1) ≡ not wanted
IsFirstIn word wanted from (Some found) = IsNextBit word wanted from found
