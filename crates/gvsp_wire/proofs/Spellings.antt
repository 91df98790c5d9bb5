-- The plain spelling of a packet is a datagram of it.
use Rattle.std.proofs.Common.{◌≡◌, ℕ, ◌+◌, ◌^◌, ◌<◌, ◌≤◌, List, [], ◌++◌, refl, subst, inl, inr, arith}
use Rattle.std.proofs.lemmas.List.{append-nil}
use Rattle.wire_fields.specs.Fields.{spelled}
use Rattle.wire_fields.proofs.Spellings.{fields_spelled, whole_spelled}
use Rattle.stream_packets.specs.declared.fields.Head.{Head}
use Rattle.stream_packets.specs.declared.fields.LeaderInfo.{LeaderInfo}
use Rattle.stream_packets.specs.Packets.{StreamPacket, leader, payload, trailer, notice}
use Rattle.gvsp_wire.specs.declared.wire_error.WireError.TheVariants.{ZeroBlock}
use Rattle.gvsp_wire.specs.Wire.{IsFormat, IsNotice, size_of, header_fields, leader_fields, trailer_fields, HasHeader, HasBlock, HasLeaderBody, HasTrailerBody, Stream, Refused}
use Rattle.gvsp_wire.specs.Plain.{plain_header, plain, HeadFits, InfoFits, HasLeaderForm, HasPayloadForm, HasTrailerForm, HasSpelling}

-- ---- headers and bodies

plain_has_header : (h : Head) (format : ℕ) (body : List ℕ) → format < 16 → HeadFits h → HasHeader (plain_header h format ++ body) format h body
plain_has_header h format body lt is = record {
  format_byte = 2 ^ 7 + format;
  reserved = 0;
  fields = fields_spelled (header_fields h (2 ^ 7 + format) 0) body (is.status, (is.flags, (omega arith, (omega arith, (is.block, (is.id, tt))))));
  extended = omega arith;
  low_bits = omega arith;
}

plain_has_block : (h : Head) (format : ℕ) (body : List ℕ) → IsFormat format → format < 16 → HeadFits h → 1 ≤ h.block → HasBlock (plain_header h format ++ body) format h body
plain_has_block h format body known lt is block = record { header = plain_has_header h format body lt is; known = known; block = block }

plain_leader : (i : LeaderInfo) → InfoFits i → i.size ≡ size_of i → HasLeaderBody (spelled (leader_fields 0 0 1 i)) 1 i
plain_leader i is size = record {
  field_information = 0;
  reserved = 0;
  ignored = [];
  fields = whole_spelled (leader_fields 0 0 1 i) (omega arith, (omega arith, (omega arith, (is.timestamp, (is.pixel, (is.size_x, (is.size_y, (is.offset_x, (is.offset_y, (is.padding_x, (is.padding_y, tt)))))))))));
  size = size;
}

plain_trailer : (y : ℕ) → y < 2 ^ 32 → HasTrailerBody (spelled (trailer_fields 0 1 y)) 1 y
plain_trailer y lt = record {
  reserved = 0;
  ignored = [];
  fields = whole_spelled (trailer_fields 0 1 y) (omega arith, (omega arith, (lt, tt)));
}

-- ---- packets

pub leader_read_again : (h : Head) (i : LeaderInfo) → HasLeaderForm h i → HeadFits h → InfoFits i → Stream (plain (leader h i)) (leader h i)
leader_read_again h i form head info = record {
  body = spelled (leader_fields 0 0 1 i);
  packet = record { has_block = plain_has_block h 1 (spelled (leader_fields 0 0 1 i)) (inl refl) (omega arith) head form.block; no_notice = form.no_notice };
  first = form.first;
  info = plain_leader i info form.size;
  in_limits = form.in_limits;
}

pub payload_read_again : (h : Head) (d : List ℕ) → HasPayloadForm h d → HeadFits h → Stream (plain (payload h d)) (payload h d)
payload_read_again h d form head = record {
  packet = record { has_block = plain_has_block h 3 d (inr (inr refl)) (omega arith) head form.block; no_notice = form.no_notice };
  after_leader = form.after_leader;
  some = form.some;
}

pub trailer_read_again : (h : Head) (y : ℕ) → HasTrailerForm h → HeadFits h → y < 2 ^ 32 → Stream (plain (trailer h y)) (trailer h y)
trailer_read_again h y form head lines = record {
  body = spelled (trailer_fields 0 1 y);
  packet = record { has_block = plain_has_block h 2 (spelled (trailer_fields 0 1 y)) (inr (inl refl)) (omega arith) head form.block; no_notice = form.no_notice };
  after_leader = form.after_leader;
  lines = plain_trailer y lines;
}

pub notice_read_again : (h : Head) → IsNotice h → 1 ≤ h.block → HeadFits h → Stream (plain (notice h)) (notice h)
notice_read_again h status block head = record {
  format = 3;
  ignored = [];
  has_block = subst (λ (l : List ℕ). HasBlock l 3 h []) (append-nil (plain_header h 3)) (plain_has_block h 3 [] (inr (inr refl)) (omega arith) head block);
  status = status;
}

pub plain_read : (x : StreamPacket) → HasSpelling x → Stream (plain x) x
plain_read (leader h i) s = leader_read_again h i s.form s.fields_fit.0 s.fields_fit.1
plain_read (payload h d) s = payload_read_again h d s.form s.fields_fit.0
plain_read (trailer h y) s = trailer_read_again h y s.form s.fields_fit.0 s.fields_fit.1
plain_read (notice h) s = notice_read_again h s.form.status s.form.block s.fields_fit

-- a notice of block 0
pub zero_notice_refused : (h : Head) → HeadFits h → IsNotice h → h.block ≡ 0 → Refused (plain (notice h)) ZeroBlock
zero_notice_refused h head status zero = record {
  format = 3;
  h = h;
  body = [];
  header = subst (λ (l : List ℕ). HasHeader l 3 h []) (append-nil (plain_header h 3)) (plain_has_header h 3 [] (omega arith) head);
  known = inr (inr refl);
  zero_block = zero;
}
