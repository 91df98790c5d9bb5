-- What a packet as it was read stands for.
use Rattle.std.specs.Prelude.{List, map, Result, Ok, Err}
use Rattle.stream_packets.specs.Packets.{StreamPacket, leader, payload, trailer, notice}
use Rattle.gvsp_wire.specs.declared.packet.Packet.{Packet}
use Rattle.gvsp_wire.specs.declared.packet.Packet.TheVariants.{Leader, Payload, Trailer, Notice}
use Rattle.gvsp_wire.specs.declared.wire_error.WireError.{WireError}

-- the packet with its bytes in the place of the lent ones
abbrev pub view : Packet → StreamPacket
view (Leader h i) = leader h i
view (Payload h d) = payload h d.now
view (Trailer h y) = trailer h y
view (Notice h) = notice h

abbrev pub views : List Packet → List StreamPacket
views ps = map view ps

-- an answer of reading, with the packet in this sense
abbrev pub seen : Result Packet WireError → Result StreamPacket WireError
seen (Ok p) = Ok (view p)
seen (Err e) = Err e
