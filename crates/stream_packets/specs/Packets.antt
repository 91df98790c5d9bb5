-- The packets of an image stream as plain values, which hold their payloads.
use Rattle.std.specs.Prelude.{ℕ, List, Bool, true, false, Option, Some, None}
use Rattle.stream_packets.specs.declared.fields.Head.{Head}
use Rattle.stream_packets.specs.declared.fields.LeaderInfo.{LeaderInfo}

pub data StreamPacket : Type 0 where
  -- what the image is
  leader : Head → LeaderInfo → StreamPacket
  -- bytes of the image
  payload : Head → List ℕ → StreamPacket
  -- the end of the block, with the number of lines
  trailer : Head → ℕ → StreamPacket
  -- the camera's word that it can't send the packet with this id again
  notice : Head → StreamPacket

-- a packet's header
abbrev pub head_of : StreamPacket → Head
head_of (leader h i) = h
head_of (payload h d) = h
head_of (trailer h y) = h
head_of (notice h) = h

abbrev pub is_trailer : StreamPacket → Bool
is_trailer (leader h i) = false
is_trailer (payload h d) = false
is_trailer (trailer h y) = true
is_trailer (notice h) = false

abbrev pub is_notice : StreamPacket → Bool
is_notice (leader h i) = false
is_notice (payload h d) = false
is_notice (trailer h y) = false
is_notice (notice h) = true

-- what a leader says of the image
abbrev pub carried_info : StreamPacket → Option LeaderInfo
carried_info (leader h i) = Some i
carried_info (payload h d) = None
carried_info (trailer h y) = None
carried_info (notice h) = None

-- the bytes of the image that a payload carries
abbrev pub carried_bytes : StreamPacket → Option (List ℕ)
carried_bytes (leader h i) = None
carried_bytes (payload h d) = Some d
carried_bytes (trailer h y) = None
carried_bytes (notice h) = None

-- how many lines a trailer says that the image has
abbrev pub carried_lines : StreamPacket → Option ℕ
carried_lines (leader h i) = None
carried_lines (payload h d) = None
carried_lines (trailer h y) = Some y
carried_lines (notice h) = None
