-- The one plain spelling of each packet, and which packets have one.
use Rattle.std.specs.Prelude.{◌≡◌, ℕ, ◌+◌, ◌<◌, ◌≤◌, ◌^◌, List, ◌++◌, length, slice_index}
use Rattle.wire_fields.specs.Fields.{spelled}
use Rattle.stream_packets.specs.declared.fields.Head.{Head}
use Rattle.stream_packets.specs.declared.fields.LeaderInfo.{LeaderInfo}
use Rattle.stream_packets.specs.Packets.{StreamPacket, leader, payload, trailer, notice}
use Rattle.gev_types.specs.FrameSize.{IsImageSize}
use Rattle.gvsp_wire.specs.Wire.{leader_format, trailer_format, payload_format, image_payload, IsNotice, header_fields, leader_fields, trailer_fields, size_of}

-- a header whose reserved fields are 0
abbrev pub plain_header : Head → ℕ → List ℕ
plain_header h format = spelled (header_fields h (2 ^ 7 + format) 0)

-- Reserved fields are 0, and nothing stands after the form. A notice has the payload's format.
abbrev pub plain : StreamPacket → List ℕ
plain (leader h i) = plain_header h leader_format ++ spelled (leader_fields 0 0 image_payload i)
plain (payload h d) = plain_header h payload_format ++ d
plain (trailer h y) = plain_header h trailer_format ++ spelled (trailer_fields 0 image_payload y)
plain (notice h) = plain_header h payload_format

-- each item is a byte
abbrev pub AreBytes : List ℕ → Type 0
AreBytes bytes = (i : ℕ) → slice_index bytes i < 256

-- ---- fields within their widths

pub record HeadFits (h : Head) : Type 0 where
  pub status : h.status < 2 ^ 16
  pub flags : h.flags < 2 ^ 16
  pub block : h.block < 2 ^ 64
  pub id : h.id < 2 ^ 32

pub record InfoFits (i : LeaderInfo) : Type 0 where
  pub timestamp : i.timestamp < 2 ^ 64
  pub pixel : i.pixel < 2 ^ 32
  pub size_x : i.size_x < 2 ^ 32
  pub size_y : i.size_y < 2 ^ 32
  pub offset_x : i.offset_x < 2 ^ 32
  pub offset_y : i.offset_y < 2 ^ 32
  pub padding_x : i.padding_x < 2 ^ 16
  pub padding_y : i.padding_y < 2 ^ 16

-- The packet's numbers are within their widths, and its payload is of bytes.
abbrev pub FieldsFit : StreamPacket → Type 0
FieldsFit (leader h i) = HeadFits h × InfoFits i
FieldsFit (payload h d) = HeadFits h × AreBytes d
FieldsFit (trailer h y) = HeadFits h × (y < 2 ^ 32)
FieldsFit (notice h) = HeadFits h

-- ---- what a packet is that bytes can be, widths aside

-- a leader, with the image's size that its other fields say and a frame may have
pub record HasLeaderForm (h : Head) (i : LeaderInfo) : Type 0 where
  pub block : 1 ≤ h.block
  pub no_notice : IsNotice h → ⊥
  pub first : h.id ≡ 0
  pub size : i.size ≡ size_of i
  pub in_limits : IsImageSize i.size

pub record HasPayloadForm (h : Head) (data_bytes : List ℕ) : Type 0 where
  pub block : 1 ≤ h.block
  pub no_notice : IsNotice h → ⊥
  pub after_leader : 1 ≤ h.id
  pub some : 1 ≤ length data_bytes

pub record HasTrailerForm (h : Head) : Type 0 where
  pub block : 1 ≤ h.block
  pub no_notice : IsNotice h → ⊥
  pub after_leader : 1 ≤ h.id

pub record HasNoticeForm (h : Head) : Type 0 where
  pub block : 1 ≤ h.block
  pub status : IsNotice h

abbrev pub HasForm : StreamPacket → Type 0
HasForm (leader h i) = HasLeaderForm h i
HasForm (payload h d) = HasPayloadForm h d
HasForm (trailer h y) = HasTrailerForm h
HasForm (notice h) = HasNoticeForm h

-- The packet is one that a datagram can be.
pub record HasSpelling (x : StreamPacket) : Type 0 where
  pub form : HasForm x
  pub fields_fit : FieldsFit x
