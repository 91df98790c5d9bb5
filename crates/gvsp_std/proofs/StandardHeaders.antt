-- The layout of a header with standard identifiers as numbers at positions, and the other way round.
use Rattle.std.proofs.Common.{◌≡◌, ℕ, ◌+◌, ◌%◌, ◌^◌, ◌≤◌, false, List, length, drop, slice_index, refl, sym, ◌∙◌, arith}
use Rattle.std.proofs.lemmas.Bool.{false_from_ne_true, both_ways}
use Rattle.wire_fields.specs.Fields.{number_at}
use Rattle.wire_fields.proofs.InOrder.{fields_read, fields_made, byte_at}
use Rattle.wire_fields.proofs.Spellings.{fields_spelled}
use Rattle.stream_packets.specs.declared.fields.Head.{Head}
use Rattle.gvsp_wire.specs.Wire.{header_fields, HasHeader}
use Rattle.gvsp_wire.specs.Reading.{is_extended}
use Rattle.gvsp_wire.specs.Plain.{HeadFits}
use Rattle.gvsp_wire.proofs.Headers.{extended_test, test_extended, header_read}
use Rattle.gvsp_std.specs.Standard.{std_fields, HasStandardHeader}
use Rattle.gvsp_std.specs.Widening.{head_in, wide_header, wide_in}

pub record StandardRead (bytes : List ℕ) (format : ℕ) (h : Head) (body : List ℕ) : Type 0 where
  pub len : 8 ≤ length bytes
  pub head : h ≡ head_in (number_at 2 2 bytes) bytes
  pub standard : is_extended (slice_index bytes 4) ≡ false
  pub format_is : slice_index bytes 4 % 2 ^ 4 ≡ format
  pub body_is : drop 8 bytes ≡ body

pub standard_read : (bytes : List ℕ) (format : ℕ) (h : Head) (body : List ℕ) → HasStandardHeader bytes format h body → StandardRead bytes format h body
standard_read bytes format h body x =
    let status = fields_read 0 (std_fields h x.format_byte) body bytes x.fields in
    let block = status.2 in
    let byte = block.2 in
    let id = byte.2 in
    let byte_is : slice_index bytes 4 ≡ x.format_byte = sym (byte_at 4 bytes) ∙ byte.1 in
    record {
      len = omega (arith, id.0);
      head = λ k. record { status = sym status.1 k; flags = x.no_flags k; block = sym block.1 k; id = sym id.1 k };
      standard = rw byte_is (false_from_ne_true (is_extended x.format_byte) (λ e. x.standard (test_extended x.format_byte e)));
      format_is = rw byte_is x.low_bits;
      body_is = id.2;
    }

pub standard_made : (bytes : List ℕ) → 8 ≤ length bytes → is_extended (slice_index bytes 4) ≡ false
    → HasStandardHeader bytes (slice_index bytes 4 % 2 ^ 4) (head_in (number_at 2 2 bytes) bytes) (drop 8 bytes)
standard_made bytes len standard = record {
  format_byte = slice_index bytes 4;
  fields = fields_made 0 (std_fields (head_in (number_at 2 2 bytes) bytes) (slice_index bytes 4)) (drop 8 bytes) bytes
      (omega arith, refl, (omega arith, refl, (omega arith, byte_at 4 bytes, (omega arith, refl, refl))));
  standard = λ e. both_ways _ standard (extended_test (slice_index bytes 4) e);
  low_bits = refl;
  no_flags = refl;
}

-- what is written has a header with extended identifiers
pub wide_has_header : (b : ℕ) (bytes : List ℕ) → HeadFits (head_in b bytes)
    → HasHeader (wide_in b bytes) (slice_index bytes 4 % 2 ^ 4) (head_in b bytes) (drop 8 bytes)
unfolding wide_header
wide_has_header b bytes is = record {
  format_byte = 2 ^ 7 + slice_index bytes 4 % 2 ^ 4;
  reserved = 0;
  fields = fields_spelled (header_fields (head_in b bytes) (2 ^ 7 + slice_index bytes 4 % 2 ^ 4) 0) (drop 8 bytes)
      (is.status, (is.flags, (omega arith, (omega arith, (is.block, (is.id, tt))))));
  extended = omega arith;
  low_bits = omega arith;
}

-- bytes have one header with extended identifiers at most
pub record IsOneHeader (format : ℕ) (h : Head) (body : List ℕ) (f : ℕ) (g : Head) (rest : List ℕ) : Type 0 where
  pub format_is : format ≡ f
  pub head_is : h ≡ g
  pub body_is : body ≡ rest

pub one_header : (bytes : List ℕ) (format : ℕ) (h : Head) (body : List ℕ) (f : ℕ) (g : Head) (rest : List ℕ)
    → HasHeader bytes format h body → HasHeader bytes f g rest → IsOneHeader format h body f g rest
one_header bytes format h body f g rest x y =
    let a = header_read bytes format h body x in
    let b = header_read bytes f g rest y in
    record { format_is = sym a.format_is ∙ b.format_is; head_is = a.head ∙ sym b.head; body_is = sym a.body_is ∙ b.body_is }
