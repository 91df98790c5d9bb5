-- The leader of a stream that comes first (GigE Vision 1.x and 2.0, GVSP image leader): one that fits, with extended
-- identifiers, or with standard ones, in the block near none.
use Rattle.std.specs.Prelude.{ℕ, ◌-◌, if◌then◌else◌, List, take, Option, Some, None, Result, Ok, Err}
use Rattle.stream_packets.specs.declared.fields.LeaderInfo.{LeaderInfo}
use Rattle.stream_packets.specs.Packets.{StreamPacket, carried_info}
use Rattle.gvsp_wire.specs.declared.wire_error.WireError.{WireError}
use Rattle.gvsp_wire.specs.Reading.{reading}
use Rattle.gvsp_std.specs.declared.std_error.StdError.{StdError}
use Rattle.gvsp_std.specs.Widening.{widened}
use Rattle.block_image.specs.Kept.{fits}
use Rattle.packet_requests.specs.declared.id_mode.IdMode.TheVariants.{Standard, Extended}
use Rattle.first_leader.specs.declared.leading.FirstLeader.{FirstLeader}

-- what a leader that fits says
abbrev pub fitting : Result StreamPacket WireError → Option LeaderInfo
fitting (Ok x) = if fits 0 x then carried_info x else None
fitting (Err e) = None

abbrev pub leader_in : List ℕ → Option LeaderInfo
leader_in bytes = fitting (reading bytes)

-- the same of a datagram that was widened, of which at most 9,000 bytes are heard
abbrev pub wide_leader : Result (ℕ × List ℕ) StdError → Option LeaderInfo
wide_leader (Ok x) = leader_in (take 9000 x.1)
wide_leader (Err e) = None

-- What is known of the stream: what its leader says, and how many of a frame's bytes a packet of this size has beside its
-- headers.
abbrev pub found_in : ℕ → Option LeaderInfo → Option LeaderInfo → Option FirstLeader
found_in packet_size (Some info) wide = Some (record { info = info; ids = Extended; payload_size = packet_size - 48 })
found_in packet_size None (Some info) = Some (record { info = info; ids = Standard; payload_size = packet_size - 36 })
found_in packet_size None None = None

abbrev pub first_leader_in : ℕ → List ℕ → Option FirstLeader
first_leader_in packet_size bytes = found_in packet_size (leader_in bytes) (wide_leader (widened 0 bytes))
