-- Which bytes are which packet: GigE Vision 2.0, GVSP with extended identifiers.
use Rattle.std.specs.Prelude.{◌≡◌, ◌≢◌, ◌⊎◌, ◌↔◌, ℕ, ◌/◌, ◌%◌, ◌^◌, ◌<◌, ◌≤◌, Bool, ◌||◌, ◌==◌, IsTrue, if◌then◌else◌, List, [], ◌∷◌, length}
use Rattle.wire_fields.specs.Fields.{HasFields}
use Rattle.stream_packets.specs.declared.fields.Head.{Head}
use Rattle.stream_packets.specs.declared.fields.LeaderInfo.{LeaderInfo}
use Rattle.stream_packets.specs.Packets.{StreamPacket, leader, payload, trailer, notice}
use Rattle.gev_types.specs.FrameSize.{image_size, IsImageSize}
use Rattle.gvsp_wire.specs.declared.wire_error.WireError.{WireError}
use Rattle.gvsp_wire.specs.declared.wire_error.WireError.TheVariants.{Short, Standard, Format, ZeroBlock, BadId, PayloadType, FrameSize}

-- the packet formats, in the low four bits of the format byte
abbrev pub leader_format : ℕ
leader_format = 1

abbrev pub trailer_format : ℕ
trailer_format = 2

abbrev pub payload_format : ℕ
payload_format = 3

abbrev pub IsFormat : ℕ → Type 0
IsFormat f = (f ≡ leader_format) ⊎ ((f ≡ trailer_format) ⊎ (f ≡ payload_format))

-- the payload type of an image
abbrev pub image_payload : ℕ
image_payload = 1

-- The statuses of a camera that can't send a packet again: unavailable, not yet available, removed
-- from memory with the ones before it, removed from memory.
abbrev pub is_notice_status : ℕ → Bool
is_notice_status status = status == 0x800C || status == 0x8010 || status == 0x8011 || status == 0x8012

abbrev pub IsNotice : Head → Type 0
IsNotice h = IsTrue (is_notice_status h.status)

-- ---- the fields, each with its number of bytes

abbrev pub header_size : ℕ
header_size = 20

abbrev pub header_fields : Head → ℕ → ℕ → List (ℕ × ℕ)
header_fields h format_byte reserved =
    (2, h.status) ∷ (2, h.flags) ∷ (1, format_byte) ∷ (3, reserved) ∷ (8, h.block) ∷ (4, h.id) ∷ []

abbrev pub leader_fields : ℕ → ℕ → ℕ → LeaderInfo → List (ℕ × ℕ)
leader_fields field_information reserved payload_type i =
    (1, field_information) ∷ (1, reserved) ∷ (2, payload_type) ∷ (8, i.timestamp) ∷ (4, i.pixel)
    ∷ (4, i.size_x) ∷ (4, i.size_y) ∷ (4, i.offset_x) ∷ (4, i.offset_y) ∷ (2, i.padding_x) ∷ (2, i.padding_y) ∷ []

abbrev pub trailer_fields : ℕ → ℕ → ℕ → List (ℕ × ℕ)
trailer_fields reserved payload_type size_y = (2, reserved) ∷ (2, payload_type) ∷ (4, size_y) ∷ []

-- the image's size in bytes, by the leader's other fields
abbrev pub size_of : LeaderInfo → ℕ
size_of i = image_size i.pixel i.size_x i.size_y i.padding_x i.padding_y

-- ---- the parts of a datagram

-- the top bit of the format byte says extended identifiers
abbrev pub IsExtended : ℕ → Type 0
IsExtended format_byte = format_byte / 2 ^ 7 % 2 ≡ 1

-- eight bytes or more, of which the fifth is the format byte
pub record HasFormatByte (bytes : List ℕ) (format_byte : ℕ) : Type 0 where
  pub first : ℕ
  pub reserved : ℕ
  pub body : List ℕ
  pub fields : HasFields bytes ((4, first) ∷ (1, format_byte) ∷ (3, reserved) ∷ []) body

-- A header with extended identifiers, its packet format, and what follows. The reserved bytes and the
-- middle bits of the format byte are free.
pub record HasHeader (bytes : List ℕ) (format : ℕ) (h : Head) (body : List ℕ) : Type 0 where
  pub format_byte : ℕ
  pub reserved : ℕ
  pub fields : HasFields bytes (header_fields h format_byte reserved) body
  pub extended : IsExtended format_byte
  pub low_bits : format_byte % 2 ^ 4 ≡ format

-- a header of a known format with a block id
pub record HasBlock (bytes : List ℕ) (format : ℕ) (h : Head) (body : List ℕ) : Type 0 where
  pub header : HasHeader bytes format h body
  pub known : IsFormat format
  pub block : 1 ≤ h.block

-- such a header of a packet that is no notice
pub record HasPacket (bytes : List ℕ) (format : ℕ) (h : Head) (body : List ℕ) : Type 0 where
  pub has_block : HasBlock bytes format h body
  pub no_notice : IsNotice h → ⊥

-- a leader's packet id is 0, and no other packet's is
abbrev pub IsId : ℕ → ℕ → Type 0
IsId format id = (format ≡ leader_format) ↔ (id ≡ 0)

-- a leader's body with this payload type; bytes after it are ignored
pub record HasLeaderBody (body : List ℕ) (payload_type : ℕ) (i : LeaderInfo) : Type 0 where
  pub field_information : ℕ
  pub reserved : ℕ
  pub ignored : List ℕ
  pub fields : HasFields body (leader_fields field_information reserved payload_type i) ignored
  pub size : i.size ≡ size_of i

-- a trailer's body with this payload type; bytes after it are ignored
pub record HasTrailerBody (body : List ℕ) (payload_type size_y : ℕ) : Type 0 where
  pub reserved : ℕ
  pub ignored : List ℕ
  pub fields : HasFields body (trailer_fields reserved payload_type size_y) ignored

-- ---- the packets

pub record IsLeader (bytes : List ℕ) (h : Head) (i : LeaderInfo) : Type 0 where
  pub body : List ℕ
  pub packet : HasPacket bytes leader_format h body
  pub first : h.id ≡ 0
  pub info : HasLeaderBody body image_payload i
  pub in_limits : IsImageSize i.size

-- the payload is all that follows the header
pub record IsPayload (bytes : List ℕ) (h : Head) (data_bytes : List ℕ) : Type 0 where
  pub packet : HasPacket bytes payload_format h data_bytes
  pub after_leader : 1 ≤ h.id
  pub some : 1 ≤ length data_bytes

pub record IsTrailer (bytes : List ℕ) (h : Head) (size_y : ℕ) : Type 0 where
  pub body : List ℕ
  pub packet : HasPacket bytes trailer_format h body
  pub after_leader : 1 ≤ h.id
  pub lines : HasTrailerBody body image_payload size_y

-- a notice may have any known format and any packet id, and what follows its header is ignored
pub record IsNoticePacket (bytes : List ℕ) (h : Head) : Type 0 where
  pub format : ℕ
  pub ignored : List ℕ
  pub has_block : HasBlock bytes format h ignored
  pub status : IsNotice h

-- The bytes are a datagram of this packet.
abbrev pub Stream : List ℕ → StreamPacket → Type 0
Stream bytes (leader h i) = IsLeader bytes h i
Stream bytes (payload h d) = IsPayload bytes h d
Stream bytes (trailer h y) = IsTrailer bytes h y
Stream bytes (notice h) = IsNoticePacket bytes h

-- ---- the refusals: each is the first reason in the order of reading, so the earlier ones don't hold

-- how many bytes follow the header at least: a leader's fields, a trailer's fields, a byte of the image
abbrev pub body_size : ℕ → ℕ
body_size format = if format == leader_format then 36 else if format == trailer_format then 8 else 1

-- The datagram ends too early: before the format byte's eight bytes do, in an extended header, or in
-- the body of a packet whose header is in order.
pub data IsShort (bytes : List ℕ) : Type 0 where
  before_format : length bytes < 8 → IsShort bytes
  in_header : (format_byte : ℕ) → HasFormatByte bytes format_byte → IsExtended format_byte → length bytes < header_size → IsShort bytes
  in_body : (format : ℕ) (h : Head) (body : List ℕ) → HasPacket bytes format h body → IsId format h.id → length body < body_size format → IsShort bytes

-- the standard identifiers of version 1.x
pub record HasStandardHeader (bytes : List ℕ) : Type 0 where
  pub format_byte : ℕ
  pub byte : HasFormatByte bytes format_byte
  pub standard : IsExtended format_byte → ⊥

pub record HasUnknownFormat (bytes : List ℕ) (format : ℕ) : Type 0 where
  pub h : Head
  pub body : List ℕ
  pub header : HasHeader bytes format h body
  pub unknown : IsFormat format → ⊥

pub record HasZeroBlock (bytes : List ℕ) : Type 0 where
  pub format : ℕ
  pub h : Head
  pub body : List ℕ
  pub header : HasHeader bytes format h body
  pub known : IsFormat format
  pub zero_block : h.block ≡ 0

pub record HasBadId (bytes : List ℕ) (id : ℕ) : Type 0 where
  pub format : ℕ
  pub h : Head
  pub body : List ℕ
  pub packet : HasPacket bytes format h body
  pub id_is : h.id ≡ id
  pub bad : IsId format id → ⊥

-- a leader's or trailer's whole body with this payload type
abbrev pub HasPayloadType : ℕ → List ℕ → ℕ → Type 0
HasPayloadType format body t =
    ((format ≡ leader_format) × (i : LeaderInfo) × HasLeaderBody body t i)
    ⊎ ((format ≡ trailer_format) × (size_y : ℕ) × HasTrailerBody body t size_y)

pub record HasOtherPayload (bytes : List ℕ) (t : ℕ) : Type 0 where
  pub format : ℕ
  pub h : Head
  pub body : List ℕ
  pub packet : HasPacket bytes format h body
  pub id : IsId format h.id
  pub payload_type : HasPayloadType format body t
  pub other : t ≢ image_payload

pub record HasFrameOutside (bytes : List ℕ) : Type 0 where
  pub h : Head
  pub i : LeaderInfo
  pub body : List ℕ
  pub packet : HasPacket bytes leader_format h body
  pub first : h.id ≡ 0
  pub info : HasLeaderBody body image_payload i
  pub outside : IsImageSize i.size → ⊥

-- The bytes are refused for this reason, the first that they have.
abbrev pub Refused : List ℕ → WireError → Type 0
Refused bytes (Short n) = (n ≡ length bytes) × IsShort bytes
Refused bytes Standard = HasStandardHeader bytes
Refused bytes (Format format) = HasUnknownFormat bytes format
Refused bytes ZeroBlock = HasZeroBlock bytes
Refused bytes (BadId id) = HasBadId bytes id
Refused bytes (PayloadType t) = HasOtherPayload bytes t
Refused bytes FrameSize = HasFrameOutside bytes
