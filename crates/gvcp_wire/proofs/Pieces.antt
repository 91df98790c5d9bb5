-- The fields of a message, and what a parser reads at their places.
use Rattle.std.proofs.Common.{◌≡◌, ℕ, ◌≤◌, List, [], length, drop, slice_index, refl, sym, ap, ◌∙◌, arith, length-drop, drop_of_length-le}
use Rattle.wire_fields.specs.Fields.{number_at}
use Rattle.wire_fields.proofs.InOrder.{fields_read, fields_made, byte_at}
use Rattle.gvcp_wire.specs.declared.message.CommandHead.{CommandHead}
use Rattle.gvcp_wire.specs.Control.{header_fields, IsCommandOf, read_mem_fields, IsReadMem, write_mem_fields, IsWriteMem}
use Rattle.gvcp_wire.specs.Reading.{head_at}

-- ---- a command's header

-- what a parser reads at the places of the header
pub record HasParts (bytes : List ℕ) (key : ℕ) (head : CommandHead) (len : ℕ) (body : List ℕ) : Type 0 where
  pub long : 8 ≤ length bytes
  pub key_is : slice_index bytes 0 ≡ key
  pub head_is : head_at bytes ≡ head
  pub length_is : number_at 4 2 bytes ≡ len
  pub body_is : drop 8 bytes ≡ body

same_head : (g h : CommandHead) → g.flags ≡ h.flags → g.code ≡ h.code → g.req ≡ h.req → g ≡ h
same_head g h p q r =
    let of_parts : ℕ → ℕ → ℕ → CommandHead = λ flags code req. record { flags = flags; code = code; req = req } in
    ap (λ (n : ℕ). of_parts n g.code g.req) p ∙ ap (λ (n : ℕ). of_parts h.flags n g.req) q ∙ ap (λ (n : ℕ). of_parts h.flags h.code n) r

pub parts_of : (bytes : List ℕ) (key : ℕ) (head : CommandHead) (len : ℕ) (body : List ℕ) → IsCommandOf bytes key head len body → HasParts bytes key head len body
parts_of bytes key head len body h =
    let (key_fits, key_is, (flags_fit, flags_are, (code_fits, code_is, (length_fits, length_is, (request_fits, request_is, body_is))))) =
    fields_read 0 (header_fields key head len) body bytes h in
    record {
      long = omega (arith, request_fits);
      key_is = sym (byte_at 0 bytes) ∙ key_is;
      head_is = same_head (head_at bytes) head (sym (byte_at 1 bytes) ∙ flags_are) code_is request_is;
      length_is = length_is;
      body_is = body_is;
    }

pub header_at : (bytes : List ℕ) → 8 ≤ length bytes → IsCommandOf bytes (slice_index bytes 0) (head_at bytes) (number_at 4 2 bytes) (drop 8 bytes)
header_at bytes long =
    fields_made 0 (header_fields (slice_index bytes 0) (head_at bytes) (number_at 4 2 bytes)) (drop 8 bytes) bytes
    (omega arith, byte_at 0 bytes, (omega arith, byte_at 1 bytes, (omega arith, refl, (omega arith, refl, (omega arith, refl, refl)))))

-- ---- bodies

pub read_mem_at : (body : List ℕ) → length body ≡ 8 → IsReadMem body (number_at 0 4 body) (number_at 6 2 body)
read_mem_at body whole = record {
  reserved = number_at 4 2 body;
  fields =
      fields_made 0 (read_mem_fields (number_at 0 4 body) (number_at 4 2 body) (number_at 6 2 body)) [] body
      (omega arith, refl, (omega arith, refl, (omega arith, refl, drop_of_length-le body {i = 8} (omega arith))));
}

pub record ReadsMem (body : List ℕ) (address count : ℕ) : Type 0 where
  pub whole : length body ≡ 8
  pub address_is : number_at 0 4 body ≡ address
  pub count_is : number_at 6 2 body ≡ count

pub reads_mem : (body : List ℕ) (address count : ℕ) → IsReadMem body address count → ReadsMem body address count
reads_mem body address count h =
    let (address_fits, address_is, (reserved_fits, reserved_is, (count_fits, count_is, rest_is))) =
    fields_read 0 (read_mem_fields address h.reserved count) [] body h.fields in
    record {
      whole = omega (arith, count_fits, ap length rest_is, length-drop 8 body);
      address_is = address_is;
      count_is = count_is;
    }

pub write_mem_at : (body : List ℕ) → 4 ≤ length body → IsWriteMem body (number_at 0 4 body) (drop 4 body)
write_mem_at body long = fields_made 0 (write_mem_fields (number_at 0 4 body)) (drop 4 body) body (omega arith, refl, refl)

pub record WritesMem (body : List ℕ) (address : ℕ) (bytes : List ℕ) : Type 0 where
  pub long : 4 ≤ length body
  pub address_is : number_at 0 4 body ≡ address
  pub bytes_are : drop 4 body ≡ bytes

pub writes_mem : (body : List ℕ) (address : ℕ) (bytes : List ℕ) → IsWriteMem body address bytes → WritesMem body address bytes
writes_mem body address bytes h =
    let (address_fits, address_is, bytes_are) = fields_read 0 (write_mem_fields address) bytes body h in
    record { long = omega (arith, address_fits); address_is = address_is; bytes_are = bytes_are }
