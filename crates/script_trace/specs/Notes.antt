-- What is told of the acquisition of a stream.
use Rattle.std.specs.Prelude.{ℕ, Bool, List, Option}
use Rattle.gentl_types.specs.declared.buffer_id.BufferId.{BufferId}
use Rattle.stream_packets.specs.declared.fields.LeaderInfo.{LeaderInfo}
use Rattle.stream_packets.specs.Packets.{StreamPacket}
use Rattle.gvsp_std.specs.declared.std_error.StdError.{StdError}
use Rattle.acquisition_machine.specs.declared.need.Why.{Why}
use Rattle.acquisition_machine.specs.Blocks.{Cause}
use Rattle.gev_types.specs.declared.reasons.Reasons.{Reasons}

-- of a block that retired with a buffer
pub record Outcome : Type 0 where
  pub block : ℕ
  pub buffer : BufferId
  pub cause : Cause
  -- as in the buffer's record
  pub complete : Bool
  -- how many packets of it were kept
  pub kept : ℕ
  -- why its image isn't whole
  pub why : Reasons
  -- the ranges of its packet ids that have no kept packet
  pub lost : List (ℕ × ℕ)
  -- whether the buffer went into the output
  pub out : Bool

pub data Note : Type 0 where
  -- a datagram of so many bytes, while the stream wasn't running
  idle : ℕ → Note
  -- a datagram that was ignored, with the packet where it is one
  ignored : Why → Option StreamPacket → Note
  -- a datagram with standard identifiers that couldn't be told with extended ones
  unwidened : StdError → Note
  -- a leader of this block was kept
  leads : ℕ → LeaderInfo → Note
  -- the block was opened, with this buffer or none
  opens : ℕ → Option BufferId → Note
  -- the block asks for these packet ids, in its round of this number
  asks : ℕ → ℕ × ℕ → ℕ → Note
  -- the first block that retires in an acquisition, where it isn't block 1
  first : ℕ → Note
  -- none of these blocks was opened
  absent : ℕ × ℕ → Note
  -- an entry of the output, with its record's block, that gave way to another
  drops : ℕ → BufferId → Note
  -- a block retired with a buffer
  done : Outcome → Note
  -- a block retired without one
  unbuffered : ℕ → Cause → Note
