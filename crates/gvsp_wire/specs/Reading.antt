-- Reading a datagram from its start, field by field, with the first refusal.
use Rattle.std.specs.Prelude.{ℕ, ◌/◌, ◌%◌, ◌^◌, Bool, ◌&&◌, nat_lt, nat_le, ◌==◌, if◌then◌else◌, List, length, drop, slice_index, Option, Some, None, Result, Ok, Err}
use Rattle.wire_fields.specs.Fields.{number_at}
use Rattle.stream_packets.specs.declared.fields.Head.{Head}
use Rattle.stream_packets.specs.declared.fields.LeaderInfo.{LeaderInfo}
use Rattle.stream_packets.specs.Packets.{StreamPacket, leader, payload, trailer, notice}
use Rattle.gev_types.specs.FrameSize.{image_size}
use Rattle.gev_types.specs.Limits.{max_buffer_size}
use Rattle.gvsp_wire.specs.declared.form.Form.{Form}
use Rattle.gvsp_wire.specs.declared.form.Form.TheVariants.{Leader, Trailer, Payload}
use Rattle.gvsp_wire.specs.declared.wire_error.WireError.{WireError}
use Rattle.gvsp_wire.specs.declared.wire_error.WireError.TheVariants.{Short, Standard, Format, ZeroBlock, BadId, PayloadType, FrameSize}
use Rattle.gvsp_wire.specs.Wire.{leader_format, trailer_format, payload_format, image_payload, is_notice_status, header_size}

abbrev pub is_extended : ℕ → Bool
is_extended format_byte = format_byte / 2 ^ 7 % 2 == 1

abbrev pub form_of : ℕ → Option Form
form_of format =
    if format == leader_format then Some Leader
    else if format == trailer_format then Some Trailer
    else if format == payload_format then Some Payload else None

abbrev pub head_at : List ℕ → Head
head_at bytes = record {
  status = number_at 0 2 bytes;
  flags = number_at 2 2 bytes;
  block = number_at 8 8 bytes;
  id = number_at 16 4 bytes;
}

-- a header of a known format with a block id
abbrev pub block_of : Form → Head → Result (Form × Head) WireError
block_of form h = if h.block == 0 then Err ZeroBlock else Ok (form, h)

abbrev pub known_of : ℕ → Option Form → Head → Result (Form × Head) WireError
known_of format None h = Err (Format format)
known_of format (Some form) h = block_of form h

unfoldable pub header_of : List ℕ → Result (Form × Head) WireError
header_of bytes =
    if nat_lt (length bytes) 8 then Err (Short (length bytes))
    else if is_extended (slice_index bytes 4) then
    (if nat_lt (length bytes) header_size then Err (Short (length bytes))
    else known_of (slice_index bytes 4 % 2 ^ 4) (form_of (slice_index bytes 4 % 2 ^ 4)) (head_at bytes))
    else Err Standard

-- a leader's fields but for the image's size, which is what they say
abbrev pub info_at : List ℕ → LeaderInfo
info_at bytes = record {
  timestamp = number_at 24 8 bytes;
  pixel = number_at 32 4 bytes;
  size_x = number_at 36 4 bytes;
  size_y = number_at 40 4 bytes;
  offset_x = number_at 44 4 bytes;
  offset_y = number_at 48 4 bytes;
  padding_x = number_at 52 2 bytes;
  padding_y = number_at 54 2 bytes;
  size = image_size (number_at 32 4 bytes) (number_at 36 4 bytes) (number_at 40 4 bytes) (number_at 52 2 bytes) (number_at 54 2 bytes);
}

abbrev pub is_image_size : ℕ → Bool
is_image_size size = nat_lt 0 size && nat_le size max_buffer_size

-- these, if the image's size is one that a frame may have
unfoldable pub sized_info : List ℕ → Option LeaderInfo
sized_info bytes = if is_image_size (info_at bytes).size then Some (info_at bytes) else None

abbrev pub leader_with : Head → Option LeaderInfo → Result StreamPacket WireError
leader_with h None = Err FrameSize
leader_with h (Some i) = Ok (leader h i)

unfoldable pub leader_of : Head → List ℕ → Result StreamPacket WireError
leader_of h bytes =
    if h.id == 0 then
    (if nat_lt (length bytes) 56 then Err (Short (length bytes))
    else if number_at 22 2 bytes == image_payload then leader_with h (sized_info bytes)
    else Err (PayloadType (number_at 22 2 bytes)))
    else Err (BadId h.id)

unfoldable pub trailer_of : Head → List ℕ → Result StreamPacket WireError
trailer_of h bytes =
    if h.id == 0 then Err (BadId h.id)
    else if nat_lt (length bytes) 28 then Err (Short (length bytes))
    else if number_at 22 2 bytes == image_payload then Ok (trailer h (number_at 24 4 bytes))
    else Err (PayloadType (number_at 22 2 bytes))

unfoldable pub payload_of : Head → List ℕ → Result StreamPacket WireError
payload_of h bytes =
    if h.id == 0 then Err (BadId h.id)
    else if nat_lt (length bytes) 21 then Err (Short (length bytes))
    else Ok (payload h (drop header_size bytes))

abbrev pub body_of : Form → Head → List ℕ → Result StreamPacket WireError
body_of Leader h bytes = leader_of h bytes
body_of Trailer h bytes = trailer_of h bytes
body_of Payload h bytes = payload_of h bytes

abbrev pub packet_after : Result (Form × Head) WireError → List ℕ → Result StreamPacket WireError
packet_after (Ok x) bytes = if is_notice_status x.1.status then Ok (notice x.1) else body_of x.0 x.1 bytes
packet_after (Err e) bytes = Err e

-- the packet that the bytes are, or the first refusal
unfoldable pub reading : List ℕ → Result StreamPacket WireError
reading bytes = packet_after (header_of bytes) bytes

-- a packet, if it is one
abbrev pub ok_of : Result StreamPacket WireError → Option StreamPacket
ok_of (Ok x) = Some x
ok_of (Err e) = None

-- the packet that the bytes are, if they are one
abbrev pub packet_of : List ℕ → Option StreamPacket
packet_of bytes = ok_of (reading bytes)
