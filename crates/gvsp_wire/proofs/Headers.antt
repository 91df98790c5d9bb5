-- The layouts of headers and bodies as numbers at positions, and the other way round.
use Rattle.std.proofs.Common.{◌≡◌, ℕ, ◌%◌, ◌^◌, ◌≤◌, true, List, [], ◌∷◌, length, drop, slice_index, refl, sym, ◌∙◌, arith}
use Rattle.std.proofs.lemmas.Bool.{eq-eqb, eqb-true}
use Rattle.wire_fields.specs.Fields.{number_at}
use Rattle.stream_packets.specs.declared.fields.Head.{Head}
use Rattle.stream_packets.specs.declared.fields.LeaderInfo.{LeaderInfo}
use Rattle.gvsp_wire.specs.Wire.{header_fields, leader_fields, trailer_fields, IsExtended, HasFormatByte, HasHeader, HasLeaderBody, HasTrailerBody}
use Rattle.gvsp_wire.specs.Reading.{is_extended, head_at, info_at}
use Rattle.wire_fields.proofs.InOrder.{fields_read, fields_made, byte_at}
use Rattle.gvsp_wire.proofs.Steps.{info_is}

-- ---- the format byte

pub record FormatByteRead (bytes : List ℕ) (format_byte : ℕ) : Type 0 where
  pub len : 8 ≤ length bytes
  pub byte : slice_index bytes 4 ≡ format_byte

pub format_byte_read : (bytes : List ℕ) (format_byte : ℕ) → HasFormatByte bytes format_byte → FormatByteRead bytes format_byte
format_byte_read bytes format_byte x =
    let first = fields_read 0 ((4, x.first) ∷ (1, format_byte) ∷ (3, x.reserved) ∷ []) x.body bytes x.fields in
    let byte = first.2 in
    let last = byte.2 in
    record { len = omega (arith, last.0); byte = sym (byte_at 4 bytes) ∙ byte.1 }

pub format_byte_made : (bytes : List ℕ) → 8 ≤ length bytes → HasFormatByte bytes (slice_index bytes 4)
format_byte_made bytes len = record {
  first = number_at 0 4 bytes;
  reserved = number_at 5 3 bytes;
  body = drop 8 bytes;
  fields = fields_made 0 ((4, number_at 0 4 bytes) ∷ (1, slice_index bytes 4) ∷ (3, number_at 5 3 bytes) ∷ []) (drop 8 bytes) bytes
      (omega arith, refl, (omega arith, byte_at 4 bytes, (omega arith, refl, refl)));
}

pub extended_test : (format_byte : ℕ) → IsExtended format_byte → is_extended format_byte ≡ true
extended_test format_byte e = eq-eqb _ 1 e

pub test_extended : (format_byte : ℕ) → is_extended format_byte ≡ true → IsExtended format_byte
test_extended format_byte e = eqb-true _ 1 e

-- ---- the header

pub record HeaderRead (bytes : List ℕ) (format : ℕ) (h : Head) (body : List ℕ) : Type 0 where
  pub len : 20 ≤ length bytes
  pub head : h ≡ head_at bytes
  pub extended : is_extended (slice_index bytes 4) ≡ true
  pub format_is : slice_index bytes 4 % 2 ^ 4 ≡ format
  pub body_is : drop 20 bytes ≡ body

pub header_read : (bytes : List ℕ) (format : ℕ) (h : Head) (body : List ℕ) → HasHeader bytes format h body → HeaderRead bytes format h body
header_read bytes format h body x =
    let status = fields_read 0 (header_fields h x.format_byte x.reserved) body bytes x.fields in
    let flags = status.2 in
    let byte = flags.2 in
    let reserved = byte.2 in
    let block = reserved.2 in
    let id = block.2 in
    let byte_is : slice_index bytes 4 ≡ x.format_byte = sym (byte_at 4 bytes) ∙ byte.1 in
    record {
      len = omega (arith, id.0);
      head = λ k. record { status = sym status.1 k; flags = sym flags.1 k; block = sym block.1 k; id = sym id.1 k };
      extended = rw byte_is (extended_test x.format_byte x.extended);
      format_is = rw byte_is x.low_bits;
      body_is = id.2;
    }

pub header_made : (bytes : List ℕ) → 20 ≤ length bytes → is_extended (slice_index bytes 4) ≡ true → HasHeader bytes (slice_index bytes 4 % 2 ^ 4) (head_at bytes) (drop 20 bytes)
header_made bytes len extended = record {
  format_byte = slice_index bytes 4;
  reserved = number_at 5 3 bytes;
  fields = fields_made 0 (header_fields (head_at bytes) (slice_index bytes 4) (number_at 5 3 bytes)) (drop 20 bytes) bytes
      (omega arith, refl, (omega arith, refl, (omega arith, byte_at 4 bytes, (omega arith, refl, (omega arith, refl, (omega arith, refl, refl))))));
  extended = test_extended (slice_index bytes 4) extended;
  low_bits = refl;
}

-- ---- a leader's body

pub record LeaderRead (bytes : List ℕ) (t : ℕ) (i : LeaderInfo) : Type 0 where
  pub len : 56 ≤ length bytes
  pub payload_type : number_at 22 2 bytes ≡ t
  pub info : i ≡ info_at bytes

pub leader_body_read : (bytes : List ℕ) (t : ℕ) (i : LeaderInfo) → HasLeaderBody (drop 20 bytes) t i → LeaderRead bytes t i
leader_body_read bytes t i x =
    let information = fields_read 20 (leader_fields x.field_information x.reserved t i) x.ignored bytes x.fields in
    let reserved = information.2 in
    let payload_type = reserved.2 in
    let timestamp = payload_type.2 in
    let pixel = timestamp.2 in
    let size_x = pixel.2 in
    let size_y = size_x.2 in
    let offset_x = size_y.2 in
    let offset_y = offset_x.2 in
    let padding_x = offset_y.2 in
    let padding_y = padding_x.2 in
    record {
      len = omega (arith, padding_y.0);
      payload_type = payload_type.1;
      info = info_is bytes i (sym timestamp.1) (sym pixel.1) (sym size_x.1) (sym size_y.1) (sym offset_x.1) (sym offset_y.1) (sym padding_x.1) (sym padding_y.1) x.size;
    }

pub leader_body_made : (bytes : List ℕ) → 56 ≤ length bytes → HasLeaderBody (drop 20 bytes) (number_at 22 2 bytes) (info_at bytes)
leader_body_made bytes len = record {
  field_information = number_at 20 1 bytes;
  reserved = number_at 21 1 bytes;
  ignored = drop 56 bytes;
  fields = fields_made 20 (leader_fields (number_at 20 1 bytes) (number_at 21 1 bytes) (number_at 22 2 bytes) (info_at bytes)) (drop 56 bytes) bytes
      (omega arith, refl, (omega arith, refl, (omega arith, refl, (omega arith, refl, (omega arith, refl, (omega arith, refl, (omega arith, refl, (omega arith, refl, (omega arith, refl, (omega arith, refl, (omega arith, refl, refl)))))))))));
  size = refl;
}

-- ---- a trailer's body

pub record TrailerRead (bytes : List ℕ) (t size_y : ℕ) : Type 0 where
  pub len : 28 ≤ length bytes
  pub payload_type : number_at 22 2 bytes ≡ t
  pub lines : size_y ≡ number_at 24 4 bytes

pub trailer_body_read : (bytes : List ℕ) (t size_y : ℕ) → HasTrailerBody (drop 20 bytes) t size_y → TrailerRead bytes t size_y
trailer_body_read bytes t size_y x =
    let reserved = fields_read 20 (trailer_fields x.reserved t size_y) x.ignored bytes x.fields in
    let payload_type = reserved.2 in
    let lines = payload_type.2 in
    record { len = omega (arith, lines.0); payload_type = payload_type.1; lines = sym lines.1 }

pub trailer_body_made : (bytes : List ℕ) → 28 ≤ length bytes → HasTrailerBody (drop 20 bytes) (number_at 22 2 bytes) (number_at 24 4 bytes)
trailer_body_made bytes len = record {
  reserved = number_at 20 2 bytes;
  ignored = drop 28 bytes;
  fields = fields_made 20 (trailer_fields (number_at 20 2 bytes) (number_at 22 2 bytes) (number_at 24 4 bytes)) (drop 28 bytes) bytes
      (omega arith, refl, (omega arith, refl, (omega arith, refl, refl)));
}
