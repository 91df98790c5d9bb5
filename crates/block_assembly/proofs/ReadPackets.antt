-- What is known of a packet that was read.
use Rattle.std.proofs.Common.{ℕ, List}
use Rattle.stream_packets.specs.Packets.{StreamPacket, leader, payload, trailer, notice}
use Rattle.gvsp_wire.specs.Wire.{Stream}
use Rattle.block_assembly.specs.Verdicts.{IsRead}

pub read_as : (bytes : List ℕ) (x : StreamPacket) → Stream bytes x → IsRead x
read_as bytes (leader h i) s = (s.first, (s.info.size, s.in_limits))
read_as bytes (payload h d) s = (s.after_leader, s.some)
read_as bytes (trailer h y) s = tt
read_as bytes (notice h) s = tt
