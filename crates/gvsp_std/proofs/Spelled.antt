-- The standard spellings of packets are widened to their plain spellings.
use Rattle.std.proofs.Common.{◌≡◌, ℕ, ◌+◌, ◌%◌, ◌^◌, ◌<◌, ◌≤◌, false, List, [], ◌∷◌, ◌++◌, length, drop, slice_index, map, Some, Ok, refl, sym, ap, subst, ◌∙◌, arith}
use Rattle.std.specs.Prelude.{max}
use Rattle.std.proofs.lemmas.Bool.{le-ltb, ne_eqb, false_from_ne_true}
use Rattle.std.proofs.lemmas.List.{append-nil}
use Rattle.wire_fields.specs.Fields.{number_at, spelled}
use Rattle.wire_fields.proofs.InOrder.{fields_read, byte_at}
use Rattle.wire_fields.proofs.Spellings.{fields_spelled}
use Rattle.stream_packets.specs.declared.fields.Head.{Head}
use Rattle.stream_packets.specs.Packets.{StreamPacket, leader, payload, trailer, notice, head_of}
use Rattle.gvsp_wire.specs.Wire.{leader_fields, trailer_fields, Stream}
use Rattle.gvsp_wire.specs.Reading.{is_extended}
use Rattle.gvsp_wire.specs.Plain.{plain_header, plain, HeadFits, HasSpelling}
use Rattle.gvsp_wire.proofs.Headers.{test_extended}
use Rattle.gvsp_wire.proofs.Spellings.{plain_read}
use Rattle.gvsp_std.specs.Blocks.{narrow, chosen, IsInReach}
use Rattle.gvsp_std.specs.Standard.{std_fields, StandardStream}
use Rattle.gvsp_std.specs.Narrowed.{of_block, with_block, std_header, std_plain, narrowed, HasStandardSpelling, MayNarrow}
use Rattle.gvsp_std.specs.Widening.{head_in, wide_header, wide_in, widened, widened_all}
use Rattle.gvsp_std.specs.Laws.{taken}
use Rattle.gvsp_std.proofs.Nearness.{chooses_itself}
use Rattle.gvsp_std.proofs.OnePacket.{one_packet}

-- ---- the header of a standard spelling, read

pub record IsSpelledHeader (bytes : List ℕ) (h : Head) (format : ℕ) (body : List ℕ) : Type 0 where
  pub len : 8 ≤ length bytes
  pub head : head_in h.block bytes ≡ h
  pub id : number_at 2 2 bytes ≡ narrow h.block
  pub byte : slice_index bytes 4 ≡ format
  pub standard : is_extended (slice_index bytes 4) ≡ false
  pub body_is : drop 8 bytes ≡ body

low_format : (format : ℕ) → format < 16 → is_extended format ≡ false
low_format format lt = false_from_ne_true (is_extended format) (λ e. let bit = test_extended format e in absurd (omega arith))

spelled_header : (h : Head) (format : ℕ) (body : List ℕ) → format < 16 → HeadFits h → h.flags ≡ 0 → h.id < 2 ^ 24
    → IsSpelledHeader (std_header h format ++ body) h format body
spelled_header h format body lt fits no_flags small =
    let bytes = std_header h format ++ body in
    let fields = std_fields (of_block (narrow h.block) h) format in
    let status = fields_read 0 fields body bytes (fields_spelled fields body (fits.status, (omega arith, (omega arith, (omega arith, tt))))) in
    let block = status.2 in
    let byte = block.2 in
    let id = byte.2 in
    let byte_is : slice_index bytes 4 ≡ format = sym (byte_at 4 bytes) ∙ byte.1 in
    record {
      len = omega (arith, id.0);
      head = λ k. record { status = status.1 k; flags = sym no_flags k; block = h.block; id = id.1 k };
      id = block.1;
      byte = byte_is;
      standard = rw byte_is (low_format format lt);
      body_is = id.2;
    }

-- what such a datagram becomes in its block
wide_is : (bytes : List ℕ) (h : Head) (format : ℕ) (body : List ℕ) → format < 16 → IsSpelledHeader bytes h format body
    → wide_in h.block bytes ≡ plain_header h format ++ body
unfolding wide_header
wide_is bytes h format body lt is =
    let low : 2 ^ 7 + slice_index bytes 4 % 2 ^ 4 ≡ 2 ^ 7 + format = omega (arith, is.byte) in
    ap (λ (n : ℕ). spelled ((2, (head_in h.block bytes).status) ∷ (2, 0) ∷ (1, n) ∷ (3, 0) ∷ (8, h.block) ∷ (4, (head_in h.block bytes).id) ∷ []) ++ drop 8 bytes) low
    ∙ ap (λ (g : Head). plain_header g format ++ drop 8 bytes) is.head
    ∙ ap (λ (l : List ℕ). plain_header h format ++ l) is.body_is

header_widened : (top : ℕ) (bytes : List ℕ) (h : Head) (format : ℕ) (body : List ℕ) → format < 16 → 1 ≤ h.block → IsInReach top h.block
    → IsSpelledHeader bytes h format body → widened top bytes ≡ Ok (h.block, plain_header h format ++ body)
header_widened top bytes h format body lt one near is =
    let id = is.id in
    let some : number_at 2 2 bytes ≡ 0 → ⊥ = λ e. omega arith in
    let chosen_is : chosen top (number_at 2 2 bytes) ≡ Some h.block = ap (chosen top) id ∙ chooses_itself top h.block one near in
    rw (le-ltb (length bytes) 8 is.len, is.standard, ne_eqb (number_at 2 2 bytes) 0 some, chosen_is)
    (ap (λ (l : List ℕ). Ok (h.block, l)) (wide_is bytes h format body lt is))

-- ---- the two spellings of a packet

record IsSpelled (x : StreamPacket) : Type 0 where
  format : ℕ
  body : List ℕ
  low : format < 16
  std_is : std_plain x ≡ std_header (head_of x) format ++ body
  plain_is : plain x ≡ plain_header (head_of x) format ++ body
  fits : HeadFits (head_of x)
  block : 1 ≤ (head_of x).block

spelled_so : (x : StreamPacket) → HasSpelling x → IsSpelled x
spelled_so (leader h i) s = record {
  format = 1;
  body = spelled (leader_fields 0 0 1 i);
  low = omega arith;
  std_is = refl;
  plain_is = refl;
  fits = s.fields_fit.0;
  block = s.form.block;
}
spelled_so (payload h d) s =
    record { format = 3; body = d; low = omega arith; std_is = refl; plain_is = refl; fits = s.fields_fit.0; block = s.form.block }
spelled_so (trailer h y) s = record {
  format = 2;
  body = spelled (trailer_fields 0 1 y);
  low = omega arith;
  std_is = refl;
  plain_is = refl;
  fits = s.fields_fit.0;
  block = s.form.block;
}
spelled_so (notice h) s = record {
  format = 3;
  body = [];
  low = omega arith;
  std_is = sym (append-nil (std_header h 3));
  plain_is = sym (append-nil (plain_header h 3));
  fits = s.fields_fit;
  block = s.form.block;
}

header_so : (x : StreamPacket) (s : HasStandardSpelling x) (p : IsSpelled x) → IsSpelledHeader (std_plain x) (head_of x) p.format p.body
header_so x s p =
    subst (λ (l : List ℕ). IsSpelledHeader l (head_of x) p.format p.body) (sym p.std_is)
    (spelled_header (head_of x) p.format p.body p.low p.fits s.no_flags s.id)

one_widened : (top : ℕ) (x : StreamPacket) → HasStandardSpelling x → IsInReach top (head_of x).block → widened top (std_plain x) ≡ taken x
one_widened top x s near =
    let p = spelled_so x s.spelling in
    header_widened top (std_plain x) (head_of x) p.format p.body p.low p.block near (header_so x s p)
    ∙ ap (λ (l : List ℕ). Ok ((head_of x).block, l)) (sym p.plain_is)

pub narrowed_widened : (top : ℕ) (xs : List StreamPacket) → MayNarrow top xs → widened_all top (narrowed xs) ≡ map taken xs
narrowed_widened top [] may = refl
narrowed_widened top (x ∷ xs) may =
    let is = one_widened top x may.0 may.1 in
    rw is (ap (λ l. taken x ∷ l) (narrowed_widened (max top (head_of x).block) xs may.2))

pub narrowed_standard : (x : StreamPacket) → HasStandardSpelling x → StandardStream (std_plain x) (with_block (narrow (head_of x).block) x)
narrowed_standard x s =
    let p = spelled_so x s.spelling in
    let is = header_so x s p in
    let block = (head_of x).block in
    let wide : wide_in block (std_plain x) ≡ plain x = wide_is (std_plain x) (head_of x) p.format p.body p.low is ∙ sym p.plain_is in
    let fits : HeadFits (head_in block (std_plain x)) = subst HeadFits (sym is.head) p.fits in
    let id = is.id in
    let one = one_packet (std_plain x) block p.block fits is.len is.standard (omega arith) in
    subst (λ (n : ℕ). StandardStream (std_plain x) (with_block n x)) is.id
    (one.back x (subst (λ (l : List ℕ). Stream l x) (sym wide) (plain_read x s.spelling)))
