-- What the bytes are by the format is what reading answers.
use Rattle.std.proofs.Common.{◌≡◌, ◌≢◌, ◌↔◌, ℕ, ◌%◌, ◌^◌, ◌<◌, ◌≤◌, true, false, List, length, drop, slice_index, Some, None, Result, Ok, Err, refl, sym, ap, subst, ◌∙◌, inl, inr, arith}
use Rattle.std.proofs.lemmas.Bool.{le-ltb, lt-ltb, eq-eqb, ne_eqb, false_from_ne_true}
use Rattle.std.proofs.lemmas.List.{length-drop}
use Rattle.stream_packets.specs.declared.fields.Head.{Head}
use Rattle.stream_packets.specs.declared.fields.LeaderInfo.{LeaderInfo}
use Rattle.stream_packets.specs.Packets.{StreamPacket, leader, payload, trailer, notice}
use Rattle.gev_types.specs.FrameSize.{IsImageSize}
use Rattle.gvsp_wire.specs.declared.form.Form.{Form}
use Rattle.gvsp_wire.specs.declared.wire_error.WireError.{WireError}
use Rattle.gvsp_wire.specs.declared.wire_error.WireError.TheVariants.{Short, Standard, Format, ZeroBlock, BadId, PayloadType, FrameSize}
use Rattle.gvsp_wire.specs.Wire.{IsNotice, IsId, IsShort, before_format, in_header, in_body, HasBlock, HasPacket, HasLeaderBody, HasTrailerBody, HasPayloadType, Stream, Refused, is_notice_status}
use Rattle.gvsp_wire.specs.Reading.{is_extended, form_of, head_at, header_of, info_at, sized_info, leader_of, trailer_of, payload_of, body_of, reading}
use Rattle.gvsp_wire.proofs.Steps.{info_fits, info_outside, leader_read, trailer_read, payload_read, bad_id_read, short_read, leader_type_read, trailer_type_read}
use Rattle.gvsp_wire.proofs.Forms.{code, known_form, unknown_form, is_leader, is_trailer, is_payload, not_leader}
use Rattle.gvsp_wire.proofs.Sound.{Sound, reading_sound}
use Rattle.gvsp_wire.proofs.Headers.{format_byte_read, extended_test, test_extended, header_read, leader_body_read, trailer_body_read}

abbrev pub headed : Form → Head → Result (Form × Head) WireError
headed form h = Ok (form, h)

-- ---- headers

-- a whole header, its format's form and its block id
header_ok : (bytes : List ℕ) (form : Form) → 20 ≤ length bytes → is_extended (slice_index bytes 4) ≡ true → form_of (slice_index bytes 4 % 2 ^ 4) ≡ Some form → 1 ≤ (head_at bytes).block → header_of bytes ≡ headed form (head_at bytes)
unfolding header_of
header_ok bytes form len ext known one =
    let some : (head_at bytes).block ≡ 0 → ⊥ = λ e. omega arith in
    rw (le-ltb (length bytes) 8 (omega arith), ext, le-ltb (length bytes) 20 len, known, ne_eqb (head_at bytes).block 0 some) refl

header_zero : (bytes : List ℕ) (form : Form) → 20 ≤ length bytes → is_extended (slice_index bytes 4) ≡ true → form_of (slice_index bytes 4 % 2 ^ 4) ≡ Some form → (head_at bytes).block ≡ 0 → header_of bytes ≡ Err ZeroBlock
unfolding header_of
header_zero bytes form len ext known zero =
    rw (le-ltb (length bytes) 8 (omega arith), ext, le-ltb (length bytes) 20 len, known, eq-eqb (head_at bytes).block 0 zero) refl

header_unknown : (bytes : List ℕ) → 20 ≤ length bytes → is_extended (slice_index bytes 4) ≡ true → form_of (slice_index bytes 4 % 2 ^ 4) ≡ None → header_of bytes ≡ Err (Format (slice_index bytes 4 % 2 ^ 4))
unfolding header_of
header_unknown bytes len ext unknown = rw (le-ltb (length bytes) 8 (omega arith), ext, le-ltb (length bytes) 20 len, unknown) refl

header_standard : (bytes : List ℕ) → 8 ≤ length bytes → is_extended (slice_index bytes 4) ≡ false → header_of bytes ≡ Err Standard
unfolding header_of
header_standard bytes len standard = rw (le-ltb (length bytes) 8 len, standard) refl

header_short : (bytes : List ℕ) → 8 ≤ length bytes → is_extended (slice_index bytes 4) ≡ true → length bytes < 20 → header_of bytes ≡ Err (Short (length bytes))
unfolding header_of
header_short bytes len ext short = rw (le-ltb (length bytes) 8 len, ext, lt-ltb (length bytes) 20 short) refl

header_shortest : (bytes : List ℕ) → length bytes < 8 → header_of bytes ≡ Err (Short (length bytes))
unfolding header_of
header_shortest bytes short = rw (lt-ltb (length bytes) 8 short) refl

-- an error of the header is the answer
header_err : (bytes : List ℕ) (e : WireError) → header_of bytes ≡ Err e → reading bytes ≡ Err e
unfolding reading
header_err bytes e is = rw is refl

-- ---- packets

pub record BlockRead (bytes : List ℕ) (format : ℕ) (h : Head) (body : List ℕ) : Type 0 where
  pub form : Form
  pub code_is : code form ≡ format
  pub len : 20 ≤ length bytes
  pub header : header_of bytes ≡ headed form h
  pub head : h ≡ head_at bytes
  pub body_is : drop 20 bytes ≡ body

pub block_read : (bytes : List ℕ) (format : ℕ) (h : Head) (body : List ℕ) → HasBlock bytes format h body → BlockRead bytes format h body
block_read bytes format h body x =
    let r = header_read bytes format h body x.header in
    let known = known_form format x.known in
    let block : h.block ≡ (head_at bytes).block = ap (λ (y : Head). y.block) r.head in
    let one : 1 ≤ (head_at bytes).block = subst (λ (n : ℕ). 1 ≤ n) block x.block in
    record {
      form = known.0;
      code_is = known.2;
      len = r.len;
      header = header_ok bytes known.0 r.len r.extended (rw r.format_is known.1) one ∙ ap (headed known.0) (sym r.head);
      head = r.head;
      body_is = r.body_is;
    }

notice_read : (bytes : List ℕ) (form : Form) (h : Head) → header_of bytes ≡ headed form h → IsNotice h → reading bytes ≡ Ok (notice h)
unfolding reading
notice_read bytes form h header is = rw (header, is) refl

record PacketRead (bytes : List ℕ) (format : ℕ) (h : Head) (body : List ℕ) : Type 0 where
  pub form : Form
  pub code_is : code form ≡ format
  pub len : 20 ≤ length bytes
  pub is : reading bytes ≡ body_of form h bytes
  pub body_is : drop 20 bytes ≡ body

by_body : (bytes : List ℕ) (form : Form) (h : Head) → header_of bytes ≡ headed form h → (IsNotice h → ⊥) → reading bytes ≡ body_of form h bytes
unfolding reading
by_body bytes form h header no_notice = rw (header, false_from_ne_true (is_notice_status h.status) no_notice) refl

packet_read : (bytes : List ℕ) (format : ℕ) (h : Head) (body : List ℕ) → HasPacket bytes format h body → PacketRead bytes format h body
packet_read bytes format h body x =
    let b = block_read bytes format h body x.has_block in
    record {
      form = b.form;
      code_is = b.code_is;
      len = b.len;
      is = by_body bytes b.form h b.header x.no_notice;
      body_is = b.body_is;
    }

-- a packet of a known form
reads_leader : (bytes : List ℕ) (h : Head) (body : List ℕ) → HasPacket bytes 1 h body → reading bytes ≡ leader_of h bytes
reads_leader bytes h body x =
    let r = packet_read bytes 1 h body x in
    r.is ∙ ap (λ (f : Form). body_of f h bytes) (is_leader r.form r.code_is)

reads_trailer : (bytes : List ℕ) (h : Head) (body : List ℕ) → HasPacket bytes 2 h body → reading bytes ≡ trailer_of h bytes
reads_trailer bytes h body x =
    let r = packet_read bytes 2 h body x in
    r.is ∙ ap (λ (f : Form). body_of f h bytes) (is_trailer r.form r.code_is)

reads_payload : (bytes : List ℕ) (h : Head) (body : List ℕ) → HasPacket bytes 3 h body → reading bytes ≡ payload_of h bytes
reads_payload bytes h body x =
    let r = packet_read bytes 3 h body x in
    r.is ∙ ap (λ (f : Form). body_of f h bytes) (is_payload r.form r.code_is)

-- what follows the header of a packet
body_at : (bytes : List ℕ) (format : ℕ) (h : Head) (body : List ℕ) → HasPacket bytes format h body → drop 20 bytes ≡ body
body_at bytes format h body x = (packet_read bytes format h body x).body_is

pub stream_read : (bytes : List ℕ) (x : StreamPacket) → Stream bytes x → reading bytes ≡ Ok x
stream_read bytes (leader h i) s =
    let info : HasLeaderBody (drop 20 bytes) 1 i = rw (body_at bytes 1 h s.body s.packet) s.info in
    let r = leader_body_read bytes 1 i info in
    let limits : IsImageSize (info_at bytes).size = subst (λ (j : LeaderInfo). IsImageSize j.size) r.info s.in_limits in
    let found : sized_info bytes ≡ Some i = info_fits bytes limits ∙ ap Some (sym r.info) in
    reads_leader bytes h s.body s.packet ∙ leader_read h bytes (Some i) s.first r.len r.payload_type found
stream_read bytes (payload h d) s =
    let at : drop 20 bytes ≡ d = body_at bytes 3 h d s.packet in
    let len : 21 ≤ length bytes = omega (arith, length-drop 20 bytes, ap length at, s.some) in
    reads_payload bytes h d s.packet ∙ payload_read h bytes s.after_leader len ∙ ap (λ (l : List ℕ). Ok (payload h l)) at
stream_read bytes (trailer h y) s =
    let lines : HasTrailerBody (drop 20 bytes) 1 y = rw (body_at bytes 2 h s.body s.packet) s.lines in
    let r = trailer_body_read bytes 1 y lines in
    reads_trailer bytes h s.body s.packet ∙ trailer_read h bytes s.after_leader r.len r.payload_type ∙ ap (λ (n : ℕ). Ok (trailer h n)) (sym r.lines)
stream_read bytes (notice h) s =
    let b = block_read bytes s.format h s.ignored s.has_block in
    notice_read bytes b.form h b.header s.status

-- ---- refusals

too_short : (bytes : List ℕ) → IsShort bytes → reading bytes ≡ Err (Short (length bytes))
too_short bytes (before_format lt) = header_err bytes _ (header_shortest bytes lt)
too_short bytes (in_header byte has ext lt) =
    let r = format_byte_read bytes byte has in
    header_err bytes _ (header_short bytes r.len (rw r.byte (extended_test byte ext)) lt)
too_short bytes (in_body format h body x id lt) =
    let r = packet_read bytes format h body x in
    let id_of : IsId (code r.form) h.id = rw r.code_is id in
    r.is ∙ short_read r.form h bytes id_of r.len (rw (r.body_is, r.code_is) lt)

other_type : (bytes : List ℕ) (format : ℕ) (h : Head) (body : List ℕ) (t : ℕ) → HasPacket bytes format h body → IsId format h.id → HasPayloadType format body t → t ≢ 1 → reading bytes ≡ Err (PayloadType t)
other_type bytes format h body t x id (inl k) other =
    let at = body_at bytes format h body x in
    let b : HasLeaderBody (drop 20 bytes) t k.1 = rw at k.2 in
    let r = leader_body_read bytes t k.1 b in
    let x1 : HasPacket bytes 1 h body = rw (← k.0) x in
    let first : h.id ≡ 0 = id.0 k.0 in
    reads_leader bytes h body x1 ∙ leader_type_read h bytes first r.len (λ e. other (sym r.payload_type ∙ e)) ∙ ap (λ (n : ℕ). Err (PayloadType n)) r.payload_type
other_type bytes format h body t x id (inr k) other =
    let at = body_at bytes format h body x in
    let b : HasTrailerBody (drop 20 bytes) t k.1 = rw at k.2 in
    let r = trailer_body_read bytes t k.1 b in
    let x2 : HasPacket bytes 2 h body = rw (← k.0) x in
    let id2 : IsId 2 h.id = rw (← k.0) id in
    reads_trailer bytes h body x2 ∙ trailer_type_read h bytes (not_leader 2 h.id (omega arith) id2) r.len (λ e. other (sym r.payload_type ∙ e)) ∙ ap (λ (n : ℕ). Err (PayloadType n)) r.payload_type

pub refused_read : (bytes : List ℕ) (e : WireError) → Refused bytes e → reading bytes ≡ Err e
refused_read bytes (Short n) r = too_short bytes r.1 ∙ ap (λ (k : ℕ). Err (Short k)) (sym r.0)
refused_read bytes Standard r =
    let b = format_byte_read bytes r.format_byte r.byte in
    header_err bytes _ (header_standard bytes b.len (false_from_ne_true (is_extended (slice_index bytes 4)) (λ e. r.standard (test_extended r.format_byte (rw b.byte at e)))))
refused_read bytes (Format f) r =
    let x = header_read bytes f r.h r.body r.header in
    let unknown : form_of (slice_index bytes 4 % 2 ^ 4) ≡ None = rw x.format_is (unknown_form f r.unknown) in
    header_err bytes _ (header_unknown bytes x.len x.extended unknown ∙ ap (λ (k : ℕ). Err (Format k)) x.format_is)
refused_read bytes ZeroBlock r =
    let x = header_read bytes r.format r.h r.body r.header in
    let known = known_form r.format r.known in
    let block : r.h.block ≡ (head_at bytes).block = ap (λ (y : Head). y.block) x.head in
    header_err bytes _ (header_zero bytes known.0 x.len x.extended (rw x.format_is known.1) (sym block ∙ r.zero_block))
refused_read bytes (BadId id) r =
    let x = packet_read bytes r.format r.h r.body r.packet in
    x.is ∙ bad_id_read x.form r.h bytes (λ i. r.bad (subst (λ (n : ℕ). IsId r.format n) r.id_is (rw x.code_is at i))) ∙ ap (λ (k : ℕ). Err (BadId k)) r.id_is
refused_read bytes (PayloadType t) r = other_type bytes r.format r.h r.body t r.packet r.id r.payload_type r.other
refused_read bytes FrameSize r =
    let info : HasLeaderBody (drop 20 bytes) 1 r.i = rw (body_at bytes 1 r.h r.body r.packet) r.info in
    let x = leader_body_read bytes 1 r.i info in
    let outside : IsImageSize (info_at bytes).size → ⊥ = λ s. r.outside (subst (λ (j : LeaderInfo). IsImageSize j.size) (sym x.info) s) in
    reads_leader bytes r.h r.body r.packet ∙ leader_read r.h bytes None r.first x.len x.payload_type (info_outside bytes outside)

-- ---- an answer that is what reading computes

pub answers_packet : (bytes : List ℕ) (r : Result StreamPacket WireError) → r ≡ reading bytes → (x : StreamPacket) → (r ≡ Ok x) ↔ Stream bytes x
answers_packet bytes r is x = (λ e. subst (Sound bytes) (sym is ∙ e) (reading_sound bytes), λ s. is ∙ stream_read bytes x s)

pub answers_refusal : (bytes : List ℕ) (r : Result StreamPacket WireError) → r ≡ reading bytes → (e : WireError) → (r ≡ Err e) ↔ Refused bytes e
answers_refusal bytes r is e = (λ t. subst (Sound bytes) (sym is ∙ t) (reading_sound bytes), λ s. is ∙ refused_read bytes e s)
