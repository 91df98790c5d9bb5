-- A frame that a camera sent, with the payload size that it was sent with.
use Rattle.std.specs.Prelude.{ℕ, ◌+◌, ◌≤◌, length}
use Rattle.gev_types.specs.Limits.{min_payload_size, max_payload_size}
use Rattle.gev_types.specs.FrameSize.{IsFrame}
use Rattle.stream_packets.specs.FramePackets.{payload_count}
use Rattle.resend_store.specs.declared.sent.SentFrame.{SentFrame}

-- the id of the frame's last packet
abbrev pub trailer_id : SentFrame → ℕ
trailer_id sent = payload_count sent.payload_size (length sent.frame.pixels) + 1

-- A valid frame, and a payload size that packets may have.
pub record IsSentFrame (sent : SentFrame) : Type 0 where
  pub valid : IsFrame sent.frame
  pub at_least : min_payload_size ≤ sent.payload_size
  pub at_most : sent.payload_size ≤ max_payload_size
