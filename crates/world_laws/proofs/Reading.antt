-- A sent packet of frames that fit packets is read, from its plain spelling, as a sent packet.
use Rattle.std.proofs.Common.{◌≡◌, ◌⊎◌, ℕ, zero, suc, ◌+◌, ◌-◌, ◌*◌, ◌/◌, ◌%◌, ◌^◌, ◌<◌, ◌≤◌, true, List, [], ◌∷◌, ◌++◌, length, drop, take, Option, Some, None, refl, sym, ap, ◌∙◌, subst, inl, inr, arith, length-drop}
use Rattle.std.specs.Prelude.{IfSome}
use Rattle.std.specs.Int.{bytes_high_first, byte_at}
use Rattle.std.proofs.Math.Nat.{mul-le-mul_left}
use Rattle.wire_fields.specs.Fields.{spelled}
use Rattle.gev_types.specs.declared.frame.Frame.{Frame}
use Rattle.gev_types.specs.FrameSize.{IsFrame}
use Rattle.stream_packets.specs.declared.fields.Head.{Head}
use Rattle.stream_packets.specs.declared.fields.LeaderInfo.{LeaderInfo}
use Rattle.stream_packets.specs.Packets.{StreamPacket, leader, payload, trailer, notice}
use Rattle.stream_packets.specs.FramePackets.{payload_count, payload_start, leader_info}
use Rattle.stream_packets.specs.Sent.{CarriesFrame, IsSent}
use Rattle.gvsp_wire.specs.Wire.{header_fields, leader_fields, trailer_fields, is_notice_status, HasLeaderBody, HasTrailerBody, size_of, Stream}
use Rattle.gvsp_wire.specs.Plain.{plain, plain_header, AreBytes, HeadFits, InfoFits, HasSpelling}
use Rattle.gvsp_wire.specs.Reading.{packet_of}
use Rattle.gvsp_wire.proofs.Calling.{packet_stream, packet_fits, plain_packet}
use Rattle.gvsp_wire.proofs.Headers.{leader_body_read, trailer_body_read}
use Rattle.gvsp_wire.proofs.Whole.{block_read}
use Rattle.gvsp_wire.proofs.Writings.{length-plain_header}
use Rattle.block_image.specs.Sizes.{IsPayloadSize}
use Rattle.block_image.proofs.FramePieces.{length-payload_bytes, count_fits}
use Rattle.world_laws.specs.Images.{FitsPackets, AreOfFrames}

-- ---- bytes

pub bytes_append : (xs ys : List ℕ) → AreBytes xs → AreBytes ys → AreBytes (xs ++ ys)
bytes_append [] ys a b i = b i
bytes_append (x ∷ xs) ys a b zero = a 0
bytes_append (x ∷ xs) ys a b (suc i) = bytes_append xs ys (λ j. a (suc j)) b i

pub bytes_taken : (n : ℕ) (xs : List ℕ) → AreBytes xs → AreBytes (take n xs)
bytes_taken zero xs a i = omega arith
bytes_taken (suc n) [] a i = omega arith
bytes_taken (suc n) (x ∷ xs) a zero = a 0
bytes_taken (suc n) (x ∷ xs) a (suc i) = bytes_taken n xs (λ j. a (suc j)) i

pub bytes_dropped : (n : ℕ) (xs : List ℕ) → AreBytes xs → AreBytes (drop n xs)
bytes_dropped zero xs a i = a i
bytes_dropped (suc n) [] a i = omega arith
bytes_dropped (suc n) (x ∷ xs) a i = bytes_dropped n xs (λ j. a (suc j)) i

byte_small : (k n : ℕ) → byte_at k n < 256
byte_small zero n = omega arith
byte_small (suc k) n = let q : ℕ = n / 256 ^ suc k in omega arith

number_small : (k n : ℕ) → AreBytes (bytes_high_first k n)
number_small zero n i = omega arith
number_small (suc k) n zero = byte_small k n
number_small (suc k) n (suc i) = number_small k n i

pub spelled_small : (fields : List (ℕ × ℕ)) → AreBytes (spelled fields)
spelled_small [] i = omega arith
spelled_small ((width, x) ∷ fields) i = bytes_append (bytes_high_first width x) (spelled fields) (number_small width x) (spelled_small fields) i

pub header_small : (h : Head) (format : ℕ) → AreBytes (plain_header h format)
header_small h format i = spelled_small (header_fields h (2 ^ 7 + format) 0) i

-- ---- flags: a spelling has their low 16 bits

abbrev low_head : Head → Head
low_head h = record h { flags = h.flags % 2 ^ 16 }

abbrev low : StreamPacket → StreamPacket
low (leader h i) = leader (low_head h) i
low (payload h d) = payload (low_head h) d
low (trailer h y) = trailer (low_head h) y
low (notice h) = notice (low_head h)

flags_low : (f : ℕ) → bytes_high_first 2 f ≡ bytes_high_first 2 (f % 2 ^ 16)
flags_low f =
    let high : f / 256 % 256 ≡ f % 2 ^ 16 / 256 % 256 = omega arith in
    let rest : f % 256 ≡ f % 2 ^ 16 % 256 = omega arith in
    ap (λ (x : ℕ). x ∷ f % 256 ∷ []) high ∙ ap (λ (y : ℕ). f % 2 ^ 16 / 256 % 256 ∷ y ∷ []) rest

header_low : (h : Head) (format : ℕ) → plain_header h format ≡ plain_header (low_head h) format
header_low h format =
    ap (λ (bytes : List ℕ). bytes_high_first 2 h.status ++ (bytes ++ spelled ((1, 2 ^ 7 + format) ∷ (3, 0) ∷ (8, h.block) ∷ (4, h.id) ∷ [])))
    (flags_low h.flags)

plain_low : (x : StreamPacket) → plain x ≡ plain (low x)
plain_low (leader h i) = ap (λ (l : List ℕ). l ++ spelled (leader_fields 0 0 1 i)) (header_low h 1)
plain_low (payload h d) = ap (λ (l : List ℕ). l ++ d) (header_low h 3)
plain_low (trailer h y) = ap (λ (l : List ℕ). l ++ spelled (trailer_fields 0 1 y)) (header_low h 2)
plain_low (notice h) = header_low h 3

-- ---- packets of a frame

quiet_status : (status : ℕ) → (status ≡ 0) ⊎ (status ≡ 0x0100) → is_notice_status status ≡ true → ⊥
quiet_status status (inl is) h = let t : is_notice_status 0 ≡ true = subst (λ (n : ℕ). is_notice_status n ≡ true) is h in absurd cc
quiet_status status (inr is) h = let t : is_notice_status 0x0100 ≡ true = subst (λ (n : ℕ). is_notice_status n ≡ true) is h in absurd cc

status_small : (status : ℕ) → (status ≡ 0) ⊎ (status ≡ 0x0100) → status < 2 ^ 16
status_small status (inl is) = omega (arith, is)
status_small status (inr is) = omega (arith, is)

-- payload k begins before the end of the image
starts_inside : (p len k : ℕ) → 1 ≤ p → 1 ≤ k → k ≤ payload_count p len → payload_start p k < len
starts_inside p len k some one top =
    let product : p * k ≤ p * payload_count p len = mul-le-mul_left p top in
    let last : p * payload_count p len < len + p = omega arith in
    let same : k - 1 + 1 ≡ k = omega arith in
    let split : (k - 1) * p + p ≡ p * (k - 1 + 1) = omega arith in
    let next : payload_start p k + p ≡ p * k = split ∙ ap (λ (i : ℕ). p * i) same in
    omega arith

-- what is known of a packet's frame
record IsOf (frames : ℕ → Option Frame) (p : ℕ) (f : Frame) (h : Head) : Type 0 where
  valid : IsFrame f
  fits : FitsPackets f
  from_one : 1 ≤ h.block
  own : f.block ≡ h.block
  size : IsPayloadSize p

head_fits : (frames : ℕ → Option Frame) (p : ℕ) (f : Frame) (h : Head) → IsOf frames p f h → (h.status ≡ 0) ⊎ (h.status ≡ 0x0100)
    → h.id ≤ payload_count p (length f.pixels) + 1 → HeadFits (low_head h)
head_fits frames p f h of status id =
    let block = of.fits.block in
    let own = of.own in
    let large = of.size.at_least in
    let in_limits = of.valid.in_limits.1 in
    let few : payload_count p (length f.pixels) + 1 ≤ 131073 = count_fits p (length f.pixels) large in_limits in
    record {
      status = status_small h.status status;
      flags = omega arith;
      block = omega arith;
      id = omega arith;
    }

leader_spelled : (frames : ℕ → Option Frame) (p : ℕ) (h : Head) (i : LeaderInfo) (c : CarriesFrame frames p (leader h i)) → IsOf frames p c.frame h
    → HasSpelling (leader (low_head h) i)
leader_spelled frames p h i c of =
    let info : i ≡ leader_info c.frame = c.packet.2 in
    let first : h.id ≡ 0 = c.packet.1 in
    record {
      form = record {
        block = of.from_one;
        no_notice = quiet_status h.status c.status;
        first = first;
        size = subst (λ (j : LeaderInfo). j.size ≡ size_of j) (sym info) refl;
        in_limits = subst (λ (j : LeaderInfo). (0 < j.size) × (j.size ≤ 2 ^ 26)) (sym info) of.valid.told;
      };
      fields_fit = (head_fits frames p c.frame h of c.status (omega arith), subst InfoFits (sym info) of.fits.info);
    }

payload_spelled : (frames : ℕ → Option Frame) (p : ℕ) (h : Head) (d : List ℕ) (c : CarriesFrame frames p (payload h d)) → IsOf frames p c.frame h
    → HasSpelling (payload (low_head h) d)
payload_spelled frames p h d c of =
    let one : 1 ≤ h.id = c.packet.1 in
    let top : h.id ≤ payload_count p (length c.frame.pixels) = c.packet.2 in
    let large = of.size.at_least in
    let some : 1 ≤ p = omega arith in
    let inside : payload_start p h.id < length c.frame.pixels = starts_inside p (length c.frame.pixels) h.id some one top in
    record {
      form = record {
        block = of.from_one;
        no_notice = quiet_status h.status c.status;
        after_leader = one;
        some = omega (arith, ap length c.packet.3, length-payload_bytes p c.frame.pixels h.id);
      };
      fields_fit = (
        head_fits frames p c.frame h of c.status (omega arith),
        subst AreBytes (sym c.packet.3) (bytes_taken p (drop (payload_start p h.id) c.frame.pixels) (bytes_dropped (payload_start p h.id) c.frame.pixels of.fits.pixels)),
      );
    }

trailer_spelled : (frames : ℕ → Option Frame) (p : ℕ) (h : Head) (y : ℕ) (c : CarriesFrame frames p (trailer h y)) → IsOf frames p c.frame h
    → HasSpelling (trailer (low_head h) y)
trailer_spelled frames p h y c of =
    let last : h.id ≡ payload_count p (length c.frame.pixels) + 1 = c.packet.1 in
    let lines : y ≡ c.frame.rows = c.packet.2 in
    let most : c.frame.rows ≤ c.frame.size_y = of.valid.rows in
    let wide = of.fits.info.size_y in
    record {
      form = record { block = of.from_one; no_notice = quiet_status h.status c.status; after_leader = omega arith };
      fields_fit = (head_fits frames p c.frame h of c.status (omega arith), omega arith);
    }

-- ---- notices

-- bytes that are a header alone are no other packet
notice_sent : (frames : ℕ → Option Frame) (p : ℕ) (bytes : List ℕ) (x : StreamPacket) → length bytes ≡ 20 → HasSpelling x → Stream bytes x → IsSent frames p x
notice_sent frames p bytes (leader h i) long fits s =
    let b = block_read bytes 1 h s.body s.packet.has_block in
    let info : HasLeaderBody (drop 20 bytes) 1 i = rw b.body_is s.info in
    let longer = (leader_body_read bytes 1 i info).len in
    absurd (omega arith)
notice_sent frames p bytes (payload h d) long fits s =
    let b = block_read bytes 3 h d s.packet.has_block in
    let some = s.some in
    absurd (omega (arith, ap length b.body_is, length-drop 20 bytes))
notice_sent frames p bytes (trailer h y) long fits s =
    let b = block_read bytes 2 h s.body s.packet.has_block in
    let lines : HasTrailerBody (drop 20 bytes) 1 y = rw b.body_is s.lines in
    let longer = (trailer_body_read bytes 1 y lines).len in
    absurd (omega arith)
notice_sent frames p bytes (notice h) long fits s = s.has_block.block

notice_read : (frames : ℕ → Option Frame) (p : ℕ) (h : Head) → IfSome (packet_of (plain (notice h))) (IsSent frames p)
notice_read frames p h = go (packet_of (plain (notice h))) refl
  where
    go : (o : Option StreamPacket) → packet_of (plain (notice h)) ≡ o → IfSome o (IsSent frames p)
    go None is = tt
    go (Some x) is =
        notice_sent frames p (plain (notice h)) x (length-plain_header h 3) (packet_fits (plain (notice h)) x (header_small h 3) is)
        (packet_stream (plain (notice h)) x is)

-- ---- what is read

is_of : (frames : ℕ → Option Frame) (p : ℕ) (packets : List StreamPacket) (h : Head) (f : Frame) → AreOfFrames frames p packets → frames h.block ≡ Some f → IsOf frames p f h
is_of frames p packets h f are is = record {
  valid = are.sent.are_frames.valid h.block f is;
  fits = are.fit h.block f is;
  from_one = are.sent.are_frames.from_one h.block f is;
  own = are.sent.are_frames.own_id h.block f is;
  size = are.sent.payload_size;
}

read_low : (frames : ℕ → Option Frame) (p : ℕ) (x : StreamPacket) → HasSpelling (low x) → IsSent frames p (low x) → IfSome (packet_of (plain x)) (IsSent frames p)
read_low frames p x fits sent =
    subst (λ (o : Option StreamPacket). IfSome o (IsSent frames p)) (sym (ap packet_of (plain_low x) ∙ plain_packet (low x) fits)) sent

pub sent_is_read : (frames : ℕ → Option Frame) (p : ℕ) (packets : List StreamPacket) → AreOfFrames frames p packets → (x : StreamPacket) → IsSent frames p x
    → IfSome (packet_of (plain x)) (IsSent frames p)
sent_is_read frames p packets are (leader h i) c =
    read_low frames p (leader h i) (leader_spelled frames p h i c (is_of frames p packets h c.frame are c.of_block))
    (record { frame = c.frame; of_block = c.of_block; packet = c.packet; status = c.status })
sent_is_read frames p packets are (payload h d) c =
    read_low frames p (payload h d) (payload_spelled frames p h d c (is_of frames p packets h c.frame are c.of_block))
    (record { frame = c.frame; of_block = c.of_block; packet = c.packet; status = c.status })
sent_is_read frames p packets are (trailer h y) c =
    read_low frames p (trailer h y) (trailer_spelled frames p h y c (is_of frames p packets h c.frame are c.of_block))
    (record { frame = c.frame; of_block = c.of_block; packet = c.packet; status = c.status })
sent_is_read frames p packets are (notice h) c = notice_read frames p h
