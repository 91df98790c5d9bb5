-- Fields in order are numbers at places, and the other way round.
use Rattle.std.proofs.Common.{◌≡◌, ℕ, ◌+◌, ◌≤◌, List, [], ◌∷◌, length, take, drop, slice_index, sym, ap, subst, ◌∙◌, arith}
use Rattle.std.proofs.lemmas.List.{drop_at, take-append-drop, length-append, length-take, length-drop, get_or-drop, drop-drop}
use Rattle.byteorder.specs.Endian.{big_number}
use Rattle.byteorder.specs.Numbers.{big_from-append, big_from-take}
use Rattle.wire_fields.specs.Fields.{number_at, BeginsWith, HasFields, AreRead}

-- a field at the front
pub record IsFront (bytes : List ℕ) (width x : ℕ) (rest : List ℕ) : Type 0 where
  pub room : width ≤ length bytes
  pub number : big_number width bytes ≡ x
  pub after : drop width bytes ≡ rest

pub front : (bytes : List ℕ) (width x : ℕ) (rest : List ℕ) → BeginsWith bytes width x rest → IsFront bytes width x rest
front bytes width x rest b = record {
  room = omega (arith, length-append b.field rest, ap length b.parts, b.wide);
  number = ap (big_number width) b.parts ∙ big_from-append width b.field rest (omega (arith, b.wide)) ∙ b.number;
  after = ap (drop width) b.parts ∙ drop_at b.field rest width b.wide;
}

pub begins : (bytes : List ℕ) (width : ℕ) → width ≤ length bytes → BeginsWith bytes width (big_number width bytes) (drop width bytes)
begins bytes width le = record {
  field = take width bytes;
  parts = sym (take-append-drop width bytes);
  wide = omega (arith, length-take width bytes);
  number = big_from-take 0 width width bytes (omega arith);
}

pub fields_read : (place : ℕ) (fields : List (ℕ × ℕ)) (rest bytes : List ℕ) → HasFields (drop place bytes) fields rest → AreRead place fields rest bytes
unfolding number_at
fields_read place [] rest bytes h = h
fields_read place ((width, x) ∷ fields) rest bytes h =
    let f = front (drop place bytes) width x h.0 h.1 in
    let after : h.0 ≡ drop (place + width) bytes = sym f.after ∙ drop-drop width place bytes in
    let more : HasFields (drop (place + width) bytes) fields rest = subst (λ (l : List ℕ). HasFields l fields rest) after h.2 in
    (omega (arith, f.room, length-drop place bytes), f.number, fields_read (place + width) fields rest bytes more)

pub fields_made : (place : ℕ) (fields : List (ℕ × ℕ)) (rest bytes : List ℕ) → AreRead place fields rest bytes → HasFields (drop place bytes) fields rest
unfolding number_at
fields_made place [] rest bytes h = h
fields_made place ((width, x) ∷ fields) rest bytes h =
    let b = begins (drop place bytes) width (omega (arith, h.0, length-drop place bytes)) in
    let is : BeginsWith (drop place bytes) width x (drop width (drop place bytes)) = subst (λ (y : ℕ). BeginsWith (drop place bytes) width y (drop width (drop place bytes))) h.1 b in
    let more : HasFields (drop (place + width) bytes) fields rest = fields_made (place + width) fields rest bytes h.2 in
    (drop width (drop place bytes), is, subst (λ (l : List ℕ). HasFields l fields rest) (sym (drop-drop width place bytes)) more)

-- the number of one byte is the byte
pub byte_at : (place : ℕ) (bytes : List ℕ) → number_at place 1 bytes ≡ slice_index bytes place
unfolding number_at
byte_at place bytes =
    let moved : place + 0 ≡ place = omega arith in
    let first : slice_index (drop place bytes) 0 ≡ slice_index bytes place = get_or-drop place bytes 0 0 ∙ ap (λ (i : ℕ). slice_index bytes i) moved in
    omega (arith, first)
