-- Which bytes are which packet with standard identifiers (GigE Vision 1.x, GVSP packet header). The
-- bodies are those of packets with extended identifiers.
use Rattle.std.specs.Prelude.{◌≡◌, ℕ, ◌%◌, ◌^◌, ◌≤◌, List, [], ◌∷◌, length}
use Rattle.wire_fields.specs.Fields.{HasFields}
use Rattle.stream_packets.specs.declared.fields.Head.{Head}
use Rattle.stream_packets.specs.declared.fields.LeaderInfo.{LeaderInfo}
use Rattle.stream_packets.specs.Packets.{StreamPacket, leader, payload, trailer, notice, head_of}
use Rattle.gev_types.specs.FrameSize.{IsImageSize}
use Rattle.gvsp_wire.specs.Wire.{leader_format, trailer_format, payload_format, image_payload, IsFormat, IsNotice, IsExtended, HasLeaderBody, HasTrailerBody}

-- the fields of a header, each with its number of bytes; it has no flags
abbrev pub std_fields : Head → ℕ → List (ℕ × ℕ)
std_fields h format_byte = (2, h.status) ∷ (2, h.block) ∷ (1, format_byte) ∷ (3, h.id) ∷ []

-- A header with standard identifiers, its packet format, and what follows. The middle bits of the
-- format byte are free.
pub record HasStandardHeader (bytes : List ℕ) (format : ℕ) (h : Head) (body : List ℕ) : Type 0 where
  pub format_byte : ℕ
  pub fields : HasFields bytes (std_fields h format_byte) body
  pub standard : IsExtended format_byte → ⊥
  pub low_bits : format_byte % 2 ^ 4 ≡ format
  pub no_flags : h.flags ≡ 0

-- ---- what follows a header of this format, by the packet

pub record FollowsLeader (format : ℕ) (body : List ℕ) (h : Head) (i : LeaderInfo) : Type 0 where
  pub is_format : format ≡ leader_format
  pub no_notice : IsNotice h → ⊥
  pub first : h.id ≡ 0
  pub info : HasLeaderBody body image_payload i
  pub in_limits : IsImageSize i.size

-- the payload is all that follows
pub record FollowsPayload (format : ℕ) (body : List ℕ) (h : Head) (data_bytes : List ℕ) : Type 0 where
  pub is_format : format ≡ payload_format
  pub no_notice : IsNotice h → ⊥
  pub after_leader : 1 ≤ h.id
  pub all : body ≡ data_bytes
  pub some : 1 ≤ length data_bytes

pub record FollowsTrailer (format : ℕ) (body : List ℕ) (h : Head) (size_y : ℕ) : Type 0 where
  pub is_format : format ≡ trailer_format
  pub no_notice : IsNotice h → ⊥
  pub after_leader : 1 ≤ h.id
  pub lines : HasTrailerBody body image_payload size_y

-- a notice may have any known format and any packet id, and what follows its header is ignored
abbrev pub Follows : ℕ → List ℕ → StreamPacket → Type 0
Follows format body (leader h i) = FollowsLeader format body h i
Follows format body (payload h d) = FollowsPayload format body h d
Follows format body (trailer h y) = FollowsTrailer format body h y
Follows format body (notice h) = IsNotice h

-- The bytes are a datagram of this packet with standard identifiers. Its block is the id, and its
-- flags are 0.
pub record StandardStream (bytes : List ℕ) (x : StreamPacket) : Type 0 where
  pub format : ℕ
  pub body : List ℕ
  pub header : HasStandardHeader bytes format (head_of x) body
  pub known : IsFormat format
  pub block : 1 ≤ (head_of x).block
  pub follows : Follows format body x
