-- What a datagram becomes is of the same packet, but for the block.
use Rattle.std.proofs.Common.{◌≡◌, ℕ, ◌+◌, ◌%◌, ◌^◌, ◌<◌, ◌≤◌, false, List, length, drop, slice_index, Some, None, Ok, refl, sym, ap, subst, ◌∙◌, inl, inr, arith}
use Rattle.std.specs.Prelude.{nat_lt, ◌==◌, Option}
use Rattle.std.proofs.lemmas.Bool.{cases_Bool, le-ltb, ltb-false, ne_eqb, eqb-false}
use Rattle.std.proofs.lemmas.List.{get_or-drop}
use Rattle.wire_fields.specs.Fields.{number_at}
use Rattle.stream_packets.specs.declared.fields.Head.{Head}
use Rattle.stream_packets.specs.Packets.{StreamPacket, leader, payload, trailer, notice, head_of}
use Rattle.gvsp_wire.specs.Wire.{HasHeader, HasBlock, Stream}
use Rattle.gvsp_wire.specs.Reading.{is_extended}
use Rattle.gvsp_wire.specs.Plain.{AreBytes, HeadFits}
use Rattle.byteorder.specs.Numbers.{big_from-lt}
use Rattle.gvsp_std.specs.Blocks.{chosen}
use Rattle.gvsp_std.specs.Standard.{HasStandardHeader, Follows, StandardStream}
use Rattle.gvsp_std.specs.Narrowed.{of_block, with_block}
use Rattle.gvsp_std.specs.Widening.{head_in, wide_in, widened_in, widened, AreOnePacket}
use Rattle.gvsp_std.proofs.Nearness.{IsBlock, chosen_block}
use Rattle.gvsp_std.proofs.StandardHeaders.{standard_read, standard_made, wide_has_header, IsOneHeader, one_header}

-- ---- a packet by its header and what follows it

pub record HasParts (bytes : List ℕ) (x : StreamPacket) : Type 0 where
  pub format : ℕ
  pub body : List ℕ
  pub has_block : HasBlock bytes format (head_of x) body
  pub follows : Follows format body x

parts_of : (bytes : List ℕ) (x : StreamPacket) → Stream bytes x → HasParts bytes x
parts_of bytes (leader h i) s = record {
  format = 1;
  body = s.body;
  has_block = s.packet.has_block;
  follows = record { is_format = refl; no_notice = s.packet.no_notice; first = s.first; info = s.info; in_limits = s.in_limits };
}
parts_of bytes (payload h d) s = record {
  format = 3;
  body = d;
  has_block = s.packet.has_block;
  follows = record { is_format = refl; no_notice = s.packet.no_notice; after_leader = s.after_leader; all = refl; some = s.some };
}
parts_of bytes (trailer h y) s = record {
  format = 2;
  body = s.body;
  has_block = s.packet.has_block;
  follows = record { is_format = refl; no_notice = s.packet.no_notice; after_leader = s.after_leader; lines = s.lines };
}
parts_of bytes (notice h) s = record { format = s.format; body = s.ignored; has_block = s.has_block; follows = s.status }

of_parts : (bytes : List ℕ) (format : ℕ) (body : List ℕ) (x : StreamPacket) → HasBlock bytes format (head_of x) body → Follows format body x → Stream bytes x
of_parts bytes format body (leader h i) has f = record {
  body = body;
  packet = record { has_block = subst (λ (n : ℕ). HasBlock bytes n h body) f.is_format has; no_notice = f.no_notice };
  first = f.first;
  info = f.info;
  in_limits = f.in_limits;
}
of_parts bytes format body (payload h d) has f =
    let is_format : HasBlock bytes 3 h body = subst (λ (n : ℕ). HasBlock bytes n h body) f.is_format has in
    record {
      packet = record { has_block = subst (λ (l : List ℕ). HasBlock bytes 3 h l) f.all is_format; no_notice = f.no_notice };
      after_leader = f.after_leader;
      some = f.some;
    }
of_parts bytes format body (trailer h y) has f = record {
  body = body;
  packet = record { has_block = subst (λ (n : ℕ). HasBlock bytes n h body) f.is_format has; no_notice = f.no_notice };
  after_leader = f.after_leader;
  lines = f.lines;
}
of_parts bytes format body (notice h) has f = record { format = format; ignored = body; has_block = has; status = f }

-- ---- the packet of another block

pub head_with : (b : ℕ) (x : StreamPacket) → head_of (with_block b x) ≡ of_block b (head_of x)
head_with b (leader h i) = refl
head_with b (payload h d) = refl
head_with b (trailer h y) = refl
head_with b (notice h) = refl

follows_with : (b format : ℕ) (body : List ℕ) (x : StreamPacket) → Follows format body x → Follows format body (with_block b x)
follows_with b format body (leader h i) f =
    record { is_format = f.is_format; no_notice = f.no_notice; first = f.first; info = f.info; in_limits = f.in_limits }
follows_with b format body (payload h d) f =
    record { is_format = f.is_format; no_notice = f.no_notice; after_leader = f.after_leader; all = f.all; some = f.some }
follows_with b format body (trailer h y) f =
    record { is_format = f.is_format; no_notice = f.no_notice; after_leader = f.after_leader; lines = f.lines }
follows_with b format body (notice h) f = f

-- ---- what was taken

pub record IsTaken (top : ℕ) (bytes : List ℕ) (b : ℕ) (wide : List ℕ) : Type 0 where
  pub len : 8 ≤ length bytes
  pub standard : is_extended (slice_index bytes 4) ≡ false
  pub some : 1 ≤ number_at 2 2 bytes
  pub chosen_is : chosen top (number_at 2 2 bytes) ≡ Some b
  pub wide_is : wide ≡ wide_in b bytes

-- an answer that is a block and a datagram, and no refusal
taken_in : (bytes : List ℕ) (o : Option ℕ) (b : ℕ) (wide : List ℕ) → widened_in bytes o ≡ Ok (b, wide) → (o ≡ Some b) × (wide ≡ wide_in b bytes)
taken_in bytes None b wide e = absurd (cc)
taken_in bytes (Some a) b wide e =
    let pair : (a, wide_in a bytes) ≡ (b, wide) = cc in
    let block : a ≡ b = ap (λ (x : ℕ × List ℕ). x.0) pair in
    let datagram : wide_in a bytes ≡ wide = ap (λ (x : ℕ × List ℕ). x.1) pair in
    (ap (λ (n : ℕ). Some n) block, sym datagram ∙ ap (λ (n : ℕ). wide_in n bytes) block)

pub taken : (top : ℕ) (bytes : List ℕ) (b : ℕ) (wide : List ℕ) → widened top bytes ≡ Ok (b, wide) → IsTaken top bytes b wide
taken top bytes b wide e =
    elim (cases_Bool (nat_lt (length bytes) 8)) [
      | inl short ↦ let never = rw short at e in absurd (cc)
      | inr long ↦ elim (cases_Bool (is_extended (slice_index bytes 4))) [
        | inl extended ↦ let never = rw (long, extended) at e in absurd (cc)
        | inr standard ↦ elim (cases_Bool (number_at 2 2 bytes == 0)) [
          | inl zero ↦ let never = rw (long, standard, zero) at e in absurd (cc)
          | inr some ↦
              let ne = eqb-false (number_at 2 2 bytes) 0 some in
              let is = taken_in bytes (chosen top (number_at 2 2 bytes)) b wide (rw (long, standard, some) at e) in
              record {
                len = ltb-false (length bytes) 8 long;
                standard = standard;
                some = omega (arith, ne);
                chosen_is = is.0;
                wide_is = is.1;
              }
        ]
      ]
    ]

-- ---- the same packet

there_of : (bytes : List ℕ) (b : ℕ) (x : StreamPacket) → 1 ≤ b → HeadFits (head_in b bytes) → StandardStream bytes x → Stream (wide_in b bytes) (with_block b x)
there_of bytes b x from_one fits s =
    let r = standard_read bytes s.format (head_of x) s.body s.header in
    let head : head_in b bytes ≡ head_of (with_block b x) = sym (head_with b x ∙ ap (of_block b) r.head) in
    let header = wide_has_header b bytes fits in
    let format : HasHeader (wide_in b bytes) s.format (head_in b bytes) (drop 8 bytes) = subst (λ (n : ℕ). HasHeader (wide_in b bytes) n (head_in b bytes) (drop 8 bytes)) r.format_is header in
    let body : HasHeader (wide_in b bytes) s.format (head_in b bytes) s.body = subst (λ (l : List ℕ). HasHeader (wide_in b bytes) s.format (head_in b bytes) l) r.body_is format in
    let has : HasBlock (wide_in b bytes) s.format (head_in b bytes) s.body = record { header = body; known = s.known; block = from_one } in
    of_parts (wide_in b bytes) s.format s.body (with_block b x) (subst (λ (h : Head). HasBlock (wide_in b bytes) s.format h s.body) head has)
    (follows_with b s.format s.body x s.follows)

header_in : (bytes : List ℕ) (b : ℕ) (x : StreamPacket) (p : HasParts (wide_in b bytes) x) → HeadFits (head_in b bytes)
    → IsOneHeader p.format (head_of x) p.body (slice_index bytes 4 % 2 ^ 4) (head_in b bytes) (drop 8 bytes)
header_in bytes b x p fits =
    one_header (wide_in b bytes) p.format (head_of x) p.body (slice_index bytes 4 % 2 ^ 4) (head_in b bytes) (drop 8 bytes) p.has_block.header
    (wide_has_header b bytes fits)

back_of : (bytes : List ℕ) (b : ℕ) (x : StreamPacket) → HeadFits (head_in b bytes) → 8 ≤ length bytes → is_extended (slice_index bytes 4) ≡ false
    → 1 ≤ number_at 2 2 bytes → Stream (wide_in b bytes) x → StandardStream bytes (with_block (number_at 2 2 bytes) x)
back_of bytes b x fits len standard some s =
    let p = parts_of (wide_in b bytes) x s in
    let is = header_in bytes b x p fits in
    let id = number_at 2 2 bytes in
    let head : head_in id bytes ≡ head_of (with_block id x) = sym (head_with id x ∙ ap (of_block id) is.head_is) in
    let header = standard_made bytes len standard in
    let format : HasStandardHeader bytes p.format (head_in id bytes) (drop 8 bytes) = subst (λ (n : ℕ). HasStandardHeader bytes n (head_in id bytes) (drop 8 bytes)) (sym is.format_is) header in
    let body : HasStandardHeader bytes p.format (head_in id bytes) p.body = subst (λ (l : List ℕ). HasStandardHeader bytes p.format (head_in id bytes) l) (sym is.body_is) format in
    record {
      format = p.format;
      body = p.body;
      header = subst (λ (h : Head). HasStandardHeader bytes p.format h p.body) head body;
      known = p.has_block.known;
      block = subst (λ (h : Head). 1 ≤ h.block) head some;
      follows = follows_with id p.format p.body x p.follows;
    }

pub one_packet : (bytes : List ℕ) (b : ℕ) → 1 ≤ b → HeadFits (head_in b bytes) → 8 ≤ length bytes → is_extended (slice_index bytes 4) ≡ false
    → 1 ≤ number_at 2 2 bytes → AreOnePacket bytes b (wide_in b bytes)
one_packet bytes b from_one fits len standard some = record {
  there = λ x s. there_of bytes b x from_one fits s;
  back = λ x s. back_of bytes b x fits len standard some s;
  block_is = λ x s. ap (λ (h : Head). h.block) (header_in bytes b x (parts_of (wide_in b bytes) x s) fits).head_is;
}

bytes_after : (at : ℕ) (bytes : List ℕ) → AreBytes bytes → AreBytes (drop at bytes)
bytes_after at bytes are i = rw (get_or-drop at bytes i 0) (are (at + i))

number_lt : (place width : ℕ) (bytes : List ℕ) → AreBytes bytes → number_at place width bytes < 256 ^ width
unfolding number_at
number_lt place width bytes are = big_from-lt 0 width (drop place bytes) (bytes_after place bytes are)

-- the header of some bytes fits its fields
head_in_fits : (bytes : List ℕ) (b : ℕ) → AreBytes bytes → b < 2 ^ 64 → HeadFits (head_in b bytes)
head_in_fits bytes b are fits = record {
  status = omega (arith, number_lt 0 2 bytes are);
  flags = omega arith;
  block = fits;
  id = omega (arith, number_lt 5 3 bytes are);
}

-- the block of what was taken
pub taken_block : (top : ℕ) (bytes : List ℕ) (b : ℕ) (wide : List ℕ) → AreBytes bytes → IsTaken top bytes b wide → IsBlock top b
taken_block top bytes b wide are t = chosen_block top (number_at 2 2 bytes) b t.some (omega (arith, number_lt 2 2 bytes are)) t.chosen_is

pub taken_packet : (top : ℕ) (bytes : List ℕ) (b : ℕ) (wide : List ℕ) → top ≤ 2 ^ 63 → AreBytes bytes → IsTaken top bytes b wide → AreOnePacket bytes b wide
taken_packet top bytes b wide room are t =
    let is = taken_block top bytes b wide are t in
    let near = is.near in
    subst (λ (l : List ℕ). AreOnePacket bytes b l) (sym t.wide_is)
    (one_packet bytes b is.from_one (head_in_fits bytes b are (omega arith)) t.len t.standard t.some)

pub widened_packet : (top : ℕ) (bytes : List ℕ) (b : ℕ) (wide : List ℕ) → top ≤ 2 ^ 63 → AreBytes bytes → widened top bytes ≡ Ok (b, wide)
    → AreOnePacket bytes b wide
widened_packet top bytes b wide room are e = taken_packet top bytes b wide room are (taken top bytes b wide e)

-- a packet with standard identifiers is refused only for its block
pub standard_widened : (top : ℕ) (bytes : List ℕ) (x : StreamPacket) → StandardStream bytes x
    → widened top bytes ≡ widened_in bytes (chosen top (head_of x).block)
standard_widened top bytes x s =
    let r = standard_read bytes s.format (head_of x) s.body s.header in
    let block : (head_of x).block ≡ number_at 2 2 bytes = ap (λ (h : Head). h.block) r.head in
    let from_one = s.block in
    let some : number_at 2 2 bytes ≡ 0 → ⊥ = λ e. omega arith in
    rw (le-ltb (length bytes) 8 r.len, r.standard, ne_eqb (number_at 2 2 bytes) 0 some)
    (ap (λ (n : ℕ). widened_in bytes (chosen top n)) (sym block))
