-- The numbers that bytes spell are in their ranges.
use Rattle.std.proofs.Common.{◌≡◌, ℕ, ◌+◌, ◌^◌, ◌<◌, List, drop, sym, ap, subst, arith}
use Rattle.std.proofs.lemmas.List.{get_or-drop}
use Rattle.byteorder.specs.Numbers.{big_from-lt}
use Rattle.wire_fields.specs.Fields.{number_at}
use Rattle.stream_packets.specs.declared.fields.Head.{Head}
use Rattle.stream_packets.specs.Packets.{StreamPacket, leader, payload, trailer, notice}
use Rattle.gvsp_wire.specs.Wire.{HasBlock, HasLeaderBody, HasTrailerBody, Stream}
use Rattle.gvsp_wire.specs.Plain.{AreBytes, HeadFits, InfoFits, HasSpelling}
use Rattle.gvsp_wire.specs.Reading.{info_at}
use Rattle.gvsp_wire.proofs.Headers.{leader_body_read, trailer_body_read}
use Rattle.gvsp_wire.proofs.Whole.{block_read}

bytes_after : (at : ℕ) (bytes : List ℕ) → AreBytes bytes → AreBytes (drop at bytes)
bytes_after at bytes fit i = rw (get_or-drop at bytes i 0) (fit (at + i))

number_lt : (place width : ℕ) (bytes : List ℕ) → AreBytes bytes → number_at place width bytes < 256 ^ width
unfolding number_at
number_lt place width bytes fit = big_from-lt 0 width (drop place bytes) (bytes_after place bytes fit)

head_fits : (bytes : List ℕ) (format : ℕ) (h : Head) (body : List ℕ) → AreBytes bytes → HasBlock bytes format h body → HeadFits h
head_fits bytes format h body fit x =
    let r = block_read bytes format h body x in
    let status : h.status ≡ number_at 0 2 bytes = ap (λ (y : Head). y.status) r.head in
    let flags : h.flags ≡ number_at 2 2 bytes = ap (λ (y : Head). y.flags) r.head in
    let block : h.block ≡ number_at 8 8 bytes = ap (λ (y : Head). y.block) r.head in
    let id : h.id ≡ number_at 16 4 bytes = ap (λ (y : Head). y.id) r.head in
    record {
      status = omega (arith, number_lt 0 2 bytes fit);
      flags = omega (arith, number_lt 2 2 bytes fit);
      block = omega (arith, number_lt 8 8 bytes fit);
      id = omega (arith, number_lt 16 4 bytes fit);
    }

info_at_fits : (bytes : List ℕ) → AreBytes bytes → InfoFits (info_at bytes)
info_at_fits bytes fit = record {
  timestamp = number_lt 24 8 bytes fit;
  pixel = number_lt 32 4 bytes fit;
  size_x = number_lt 36 4 bytes fit;
  size_y = number_lt 40 4 bytes fit;
  offset_x = number_lt 44 4 bytes fit;
  offset_y = number_lt 48 4 bytes fit;
  padding_x = number_lt 52 2 bytes fit;
  padding_y = number_lt 54 2 bytes fit;
}

pub spelling_of : (bytes : List ℕ) (x : StreamPacket) → AreBytes bytes → Stream bytes x → HasSpelling x
spelling_of bytes (leader h i) fit s =
    let b = block_read bytes 1 h s.body s.packet.has_block in
    let body : HasLeaderBody (drop 20 bytes) 1 i = rw b.body_is s.info in
    let r = leader_body_read bytes 1 i body in
    record {
      form = record {
        block = s.packet.has_block.block;
        no_notice = s.packet.no_notice;
        first = s.first;
        size = s.info.size;
        in_limits = s.in_limits;
      };
      fields_fit = (head_fits bytes 1 h s.body fit s.packet.has_block, subst InfoFits (sym r.info) (info_at_fits bytes fit));
    }
spelling_of bytes (payload h d) fit s =
    let b = block_read bytes 3 h d s.packet.has_block in
    record {
      form = record {
        block = s.packet.has_block.block;
        no_notice = s.packet.no_notice;
        after_leader = s.after_leader;
        some = s.some;
      };
      fields_fit = (head_fits bytes 3 h d fit s.packet.has_block, subst AreBytes b.body_is (bytes_after 20 bytes fit));
    }
spelling_of bytes (trailer h y) fit s =
    let b = block_read bytes 2 h s.body s.packet.has_block in
    let body : HasTrailerBody (drop 20 bytes) 1 y = rw b.body_is s.lines in
    let r = trailer_body_read bytes 1 y body in
    let lines = r.lines in
    let fits : y < 2 ^ 32 = omega (arith, number_lt 24 4 bytes fit) in
    record {
      form = record { block = s.packet.has_block.block; no_notice = s.packet.no_notice; after_leader = s.after_leader };
      fields_fit = (head_fits bytes 2 h s.body fit s.packet.has_block, fits);
    }
spelling_of bytes (notice h) fit s = record {
  form = record { block = s.has_block.block; status = s.status };
  fields_fit = head_fits bytes s.format h s.ignored fit s.has_block;
}
