-- What spells fields is read as them.
use Rattle.std.proofs.Common.{◌≡◌, ℕ, ◌+◌, ◌%◌, ◌^◌, ◌<◌, List, [], ◌∷◌, ◌++◌, length, drop, refl, sym, ap, subst, ◌∙◌, append_assoc, arith}
use Rattle.std.proofs.lemmas.List.{append-nil, length-append}
use Rattle.byteorder.specs.Endian.{big_number, big_bytes}
use Rattle.byteorder.specs.Numbers.{length-bytes_high_first, big_number-reads_back}
use Rattle.wire_fields.specs.Fields.{BeginsWith, HasFields, spelled, width_of, Fit}
use Rattle.wire_fields.specs.Laws.{widths, IsReadAgain}
use Rattle.wire_fields.proofs.InOrder.{front}

-- a byte spells itself
pub byte_spelled : (x : ℕ) → x < 256 → big_bytes 1 x ≡ x ∷ []
byte_spelled x lt =
    let same : x % 256 ≡ x = omega (arith, lt) in
    ap (λ (y : ℕ). y ∷ []) same

pub begins_spelled : (width x : ℕ) (rest : List ℕ) → x < 256 ^ width → BeginsWith (big_bytes width x ++ rest) width x rest
begins_spelled width x rest lt = record {
  field = big_bytes width x;
  parts = refl;
  wide = length-bytes_high_first width x;
  number = ap (big_number width) (sym (append-nil (big_bytes width x))) ∙ big_number-reads_back width x [] lt;
}

pub fields_spelled : (fields : List (ℕ × ℕ)) (rest : List ℕ) → Fit fields → HasFields (spelled fields ++ rest) fields rest
fields_spelled [] rest fit = refl
fields_spelled ((width, x) ∷ fields) rest fit =
    let more = fields_spelled fields rest fit.1 in
    let grouped : big_bytes width x ++ spelled fields ++ rest ≡ big_bytes width x ++ (spelled fields ++ rest) = append_assoc (big_bytes width x) (spelled fields) rest in
    subst (λ (l : List ℕ). HasFields l ((width, x) ∷ fields) rest) (sym grouped) (spelled fields ++ rest, begins_spelled width x (spelled fields ++ rest) fit.0, more)

-- fields to the end of the bytes
pub whole_spelled : (fields : List (ℕ × ℕ)) → Fit fields → HasFields (spelled fields) fields []
whole_spelled fields fit = subst (λ (l : List ℕ). HasFields l fields []) (append-nil (spelled fields)) (fields_spelled fields [] fit)

pub length-spelled : (fields : List (ℕ × ℕ)) → length (spelled fields) ≡ width_of fields
length-spelled [] = refl
length-spelled ((width, x) ∷ fields) =
    let parts : length (big_bytes width x ++ spelled fields) ≡ width + width_of fields =
    omega (arith, length-append (big_bytes width x) (spelled fields), length-bytes_high_first width x, length-spelled fields) in
    parts

pub read_again : (fields : List (ℕ × ℕ)) → IsReadAgain fields
read_again fields = record { read = fields_spelled fields; wide = length-spelled fields }

-- fields of the same widths in the same bytes are the same
head_is : (m n : ℕ) (ms ns : List ℕ) → m ∷ ms ≡ n ∷ ns → m ≡ n
head_is m n ms ns e = cc

tail_is : (m n : ℕ) (ms ns : List ℕ) → m ∷ ms ≡ n ∷ ns → ms ≡ ns
tail_is m n ms ns e = cc

never_empty : (n : ℕ) (ns : List ℕ) → [] ≡ n ∷ ns → ⊥
never_empty n ns e = cc

pub one_way : (bytes : List ℕ) (fields others : List (ℕ × ℕ)) (rest after : List ℕ) → widths fields ≡ widths others
    → HasFields bytes fields rest → HasFields bytes others after → (fields ≡ others) × (rest ≡ after)
one_way bytes [] [] rest after e h k = (refl, sym h ∙ k)
one_way bytes [] ((n, y) ∷ others) rest after e h k = absurd (never_empty n (widths others) e)
one_way bytes ((m, x) ∷ fields) [] rest after e h k = absurd (never_empty m (widths fields) (sym e))
one_way bytes ((m, x) ∷ fields) ((n, y) ∷ others) rest after e h k =
    let same : m ≡ n = head_is m n (widths fields) (widths others) e in
    let f = front bytes m x h.0 h.1 in
    let g = front bytes n y k.0 k.1 in
    let number : x ≡ y = sym f.number ∙ ap (λ (w : ℕ). big_number w bytes) same ∙ g.number in
    let left : h.0 ≡ k.0 = sym f.after ∙ ap (λ (w : ℕ). drop w bytes) same ∙ g.after in
    let more : HasFields k.0 fields rest = subst (λ (l : List ℕ). HasFields l fields rest) left h.2 in
    let tails = one_way k.0 fields others rest after (tail_is m n (widths fields) (widths others) e) more k.2 in
    (rw (same, number, tails.0) refl, tails.1)
