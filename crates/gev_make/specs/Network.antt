-- What a network holds after packets of a stream were put into it one after the other.
use Rattle.std.specs.Prelude.{ℕ, List, [], ◌∷◌}
use Rattle.stream_packets.specs.Packets.{StreamPacket}
use Rattle.gvsp_wire.specs.Plain.{plain}
use Rattle.lossy_queue.specs.declared.datagram.Datagram.{Datagram}
use Rattle.lossy_queue.specs.declared.datagram.Channel.TheVariants.{Stream}
use Rattle.lossy_queue.specs.declared.rates.Rates.{Rates}
use Rattle.lossy_queue.specs.Lossy.{put_lossy, after_put}
use Rattle.gev_make.specs.declared.network.Network.{Network}

-- an empty network whose generator starts at the seed
abbrev pub new_network : ℕ → Rates → Network
new_network seed rates = record { rates = rates; generator = seed; queue = [] }

abbrev pub stream_datagram : List ℕ → Datagram
stream_datagram bytes = record { channel = Stream; bytes = bytes }

-- after a packet of these bytes was put into it
unfoldable pub carried : Network → List ℕ → Network
carried n bytes = record n {
  generator = after_put n.generator;
  queue = put_lossy n.rates n.generator (stream_datagram bytes) n.queue;
}

-- after these packets were put into it in order
abbrev pub all_carried : Network → List StreamPacket → Network
all_carried n [] = n
all_carried n (x ∷ xs) = all_carried (carried n (plain x)) xs

-- after all that was in it came out
abbrev pub emptied : Network → Network
emptied n = record n { queue = [] }
