-- Laws of fields, which `src/laws.rt` proves.
use Rattle.std.specs.Prelude.{◌≡◌, ◌↔◌, ℕ, List, ◌++◌, drop, length, map}
use Rattle.wire_fields.specs.Fields.{HasFields, AreRead, spelled, width_of, Fit}

-- Fields in order are numbers at their places.
abbrev pub FieldsAreNumbers : Type 0
FieldsAreNumbers =
    (place : ℕ) (fields : List (ℕ × ℕ)) (rest bytes : List ℕ) → HasFields (drop place bytes) fields rest ↔ AreRead place fields rest bytes

-- What spells fields is read as them, whatever follows, and has their width.
pub record IsReadAgain (fields : List (ℕ × ℕ)) : Type 0 where
  pub read : (rest : List ℕ) → Fit fields → HasFields (spelled fields ++ rest) fields rest
  pub wide : length (spelled fields) ≡ width_of fields

abbrev pub SpelledIsRead : Type 0
SpelledIsRead = (fields : List (ℕ × ℕ)) → IsReadAgain fields

abbrev pub widths : List (ℕ × ℕ) → List ℕ
widths fields = map (λ (f : ℕ × ℕ). f.0) fields

-- Bytes are fields of given widths in one way at most.
abbrev pub FieldsAreOne : Type 0
FieldsAreOne =
    (bytes : List ℕ) (fields others : List (ℕ × ℕ)) (rest after : List ℕ) → widths fields ≡ widths others
    → HasFields bytes fields rest → HasFields bytes others after → (fields ≡ others) × (rest ≡ after)
