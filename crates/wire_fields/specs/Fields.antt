-- Bytes as fields: numbers of known widths in bytes, one after the other, each with its most
-- significant byte first (the byte order of GigE Vision 2.0, and of its network).
use Rattle.std.specs.Prelude.{◌≡◌, ℕ, ◌+◌, ◌-◌, ◌<◌, ◌≤◌, ◌^◌, List, [], ◌∷◌, ◌++◌, length, drop}
use Rattle.byteorder.specs.Endian.{big_number, big_bytes}

-- the number in the bytes of this width from a place on
unfoldable pub number_at : ℕ → ℕ → List ℕ → ℕ
number_at place width bytes = big_number width (drop place bytes)

-- bytes of this width that spell x, and what follows them
pub record BeginsWith (bytes : List ℕ) (width x : ℕ) (rest : List ℕ) : Type 0 where
  pub field : List ℕ
  pub parts : bytes ≡ field ++ rest
  pub wide : length field ≡ width
  pub number : big_number width field ≡ x

-- The bytes are these fields in order, each given by its width and its number, and then the rest.
abbrev pub HasFields : List ℕ → List (ℕ × ℕ) → List ℕ → Type 0
HasFields bytes [] rest = bytes ≡ rest
HasFields bytes ((width, x) ∷ fields) rest =
    (after : List ℕ) × BeginsWith bytes width x after × HasFields after fields rest

-- The fields, each read at its place from `place` on, are these, and the rest follows them.
abbrev pub AreRead : ℕ → List (ℕ × ℕ) → List ℕ → List ℕ → Type 0
AreRead place [] rest bytes = drop place bytes ≡ rest
AreRead place ((width, x) ∷ fields) rest bytes =
    (width ≤ length bytes - place) × (number_at place width bytes ≡ x) × AreRead (place + width) fields rest bytes

-- the bytes that spell these fields
abbrev pub spelled : List (ℕ × ℕ) → List ℕ
spelled [] = []
spelled ((width, x) ∷ fields) = big_bytes width x ++ spelled fields

-- how many bytes these fields have
abbrev pub width_of : List (ℕ × ℕ) → ℕ
width_of [] = 0
width_of ((width, x) ∷ fields) = width + width_of fields

-- each number fits its bytes
abbrev pub Fit : List (ℕ × ℕ) → Type 0
Fit [] = Unit {0}
Fit ((width, x) ∷ fields) = (x < 256 ^ width) × Fit fields
