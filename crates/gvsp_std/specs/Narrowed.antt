-- The standard spelling of packets, and which packets have one that names them.
use Rattle.std.specs.Prelude.{◌≡◌, ℕ, ◌<◌, ◌^◌, List, [], ◌∷◌, ◌++◌, map, max}
use Rattle.wire_fields.specs.Fields.{spelled}
use Rattle.stream_packets.specs.declared.fields.Head.{Head}
use Rattle.stream_packets.specs.Packets.{StreamPacket, leader, payload, trailer, notice, head_of}
use Rattle.gvsp_wire.specs.Wire.{leader_format, trailer_format, payload_format, image_payload, leader_fields, trailer_fields}
use Rattle.gvsp_wire.specs.Plain.{HasSpelling}
use Rattle.gvsp_std.specs.Blocks.{narrow, IsInReach}
use Rattle.gvsp_std.specs.Standard.{std_fields}

-- the header of another block
abbrev pub of_block : ℕ → Head → Head
of_block b h = record h { block = b }

-- the packet of another block
abbrev pub with_block : ℕ → StreamPacket → StreamPacket
with_block b (leader h i) = leader (of_block b h) i
with_block b (payload h d) = payload (of_block b h) d
with_block b (trailer h y) = trailer (of_block b h) y
with_block b (notice h) = notice (of_block b h)

abbrev pub std_header : Head → ℕ → List ℕ
std_header h format = spelled (std_fields (of_block (narrow h.block) h) format)

-- The spelling with standard identifiers: reserved fields are 0, and nothing stands after the form. A
-- notice has the payload's format.
abbrev pub std_plain : StreamPacket → List ℕ
std_plain (leader h i) = std_header h leader_format ++ spelled (leader_fields 0 0 image_payload i)
std_plain (payload h d) = std_header h payload_format ++ d
std_plain (trailer h y) = std_header h trailer_format ++ spelled (trailer_fields 0 image_payload y)
std_plain (notice h) = std_header h payload_format

abbrev pub narrowed : List StreamPacket → List (List ℕ)
narrowed xs = map std_plain xs

-- The packet has a standard spelling: no flags, and an id of 24 bits.
pub record HasStandardSpelling (x : StreamPacket) : Type 0 where
  pub spelling : HasSpelling x
  pub no_flags : (head_of x).flags ≡ 0
  pub id : (head_of x).id < 2 ^ 24

-- Each packet has a standard spelling, and a block in reach of the greatest before it.
abbrev pub MayNarrow : ℕ → List StreamPacket → Type 0
MayNarrow top [] = Unit {0}
MayNarrow top (x ∷ xs) =
    HasStandardSpelling x × IsInReach top (head_of x).block × MayNarrow (max top (head_of x).block) xs
