-- The packets of a soak run: the receiver hears none but those of the frames of the run's seed.
use Rattle.std.specs.Prelude.{◌≡◌, ℕ, ◌-◌, ◌^◌, ◌<◌, ◌&&◌, nat_le, if◌then◌else◌, List, Option, Some, None}
use Rattle.std.specs.List.{Contains}
use Rattle.gev_types.specs.declared.frame.Frame.{Frame}
use Rattle.gev_frames.specs.Frames.{camera_frame}
use Rattle.stream_packets.specs.Packets.{StreamPacket}
use Rattle.stream_packets.specs.Sent.{AreFrames, IsSent}
use Rattle.gvsp_wire.specs.Plain.{plain}
use Rattle.gvsp_wire.specs.Reading.{packet_of}
use Rattle.world_laws.specs.Receiver.{soak_config, soak_host, start}
use Rattle.world_machine.specs.State.{Run, image_shape}
use Rattle.world_machine.specs.HostActs.{host_hears, host_acts_after}
use Rattle.world_laws.specs.Setup.{GoesOn}

-- the frames of a run's seed, by block id from 1 on, as many as the run has: short ones in a short run
abbrev pub soak_frames : Run → ℕ → Option Frame
soak_frames run b = if nat_le 1 b && nat_le b run.frames then Some (camera_frame run.short run.seed b image_shape) else None

-- The bytes spell a packet that a camera of these frames may send, with payloads of 1452 bytes.
pub record IsSoakPacket (run : Run) (bytes : List ℕ) : Type 0 where
  pub packet : StreamPacket
  pub spelled : bytes ≡ plain packet
  pub sent : IsSent (soak_frames run) soak_config.p packet

-- Each datagram that the receiver hears is such a packet, and is read as such a one, if as any: up to the
-- round that ends the run and with it. Block ids have 64 bits.
pub record HearsItsFrames (run : Run) : Type 0 where
  pub frames : AreFrames (soak_frames run)
  pub heard : (n : ℕ) → GoesOn run soak_host start (n - 1) → (bytes : List ℕ) → Contains (host_acts_after run soak_host start n) (host_hears bytes)
      → IsSoakPacket run bytes
  pub read : run.frames < 2 ^ 64 → (n : ℕ) → GoesOn run soak_host start (n - 1) → (bytes : List ℕ)
      → Contains (host_acts_after run soak_host start n) (host_hears bytes) → (x : StreamPacket) → packet_of bytes ≡ Some x
      → IsSent (soak_frames run) soak_config.p x
