-- What a camera may send that sends a map of frames, whichever datagrams are lost or come again.
use Rattle.std.specs.Prelude.{◌≡◌, ◌⊎◌, ℕ, ◌≤◌, Option, Some}
use Rattle.gev_types.specs.declared.frame.Frame.{Frame}
use Rattle.gev_types.specs.FrameSize.{IsFrame}
use Rattle.stream_packets.specs.Packets.{StreamPacket, leader, payload, trailer, notice, head_of}
use Rattle.stream_packets.specs.FramePackets.{IsPacketOf}

-- The frames that a camera sends, by block id: valid ones, each under its own id, from 1 on.
pub record AreFrames (frames : ℕ → Option Frame) : Type 0 where
  pub valid : (b : ℕ) (f : Frame) → frames b ≡ Some f → IsFrame f
  pub own_id : (b : ℕ) (f : Frame) → frames b ≡ Some f → f.block ≡ b
  pub from_one : (b : ℕ) (f : Frame) → frames b ≡ Some f → 1 ≤ b

-- The packet is one of its block's frame, sent first or again. Flags are free.
pub record CarriesFrame (frames : ℕ → Option Frame) (p : ℕ) (x : StreamPacket) : Type 0 where
  pub frame : Frame
  pub of_block : frames (head_of x).block ≡ Some frame
  pub packet : IsPacketOf frame p x
  pub status : ((head_of x).status ≡ 0) ⊎ ((head_of x).status ≡ 0x0100)

-- a packet that such a camera may send; notices may be of any block
abbrev pub IsSent : (ℕ → Option Frame) → ℕ → StreamPacket → Type 0
IsSent frames p (leader h i) = CarriesFrame frames p (leader h i)
IsSent frames p (payload h d) = CarriesFrame frames p (payload h d)
IsSent frames p (trailer h y) = CarriesFrame frames p (trailer h y)
IsSent frames p (notice h) = 1 ≤ h.block
