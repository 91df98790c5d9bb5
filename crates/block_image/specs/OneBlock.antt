-- What the image of one block has of its frame, whichever sent packets came, in whatever order.
use Rattle.std.specs.Prelude.{◌≡◌, ℕ, ◌+◌, ◌<◌, ◌≤◌, List, length, take, slice_index, true, false, Option, Some}
use Rattle.std.specs.List.{All, Contains}
use Rattle.gev_types.specs.declared.frame.Frame.{Frame}
use Rattle.gev_types.specs.Filling.{Filling}
use Rattle.stream_packets.specs.declared.fields.Head.{Head}
use Rattle.stream_packets.specs.Packets.{StreamPacket, payload}
use Rattle.stream_packets.specs.FramePackets.{payload_start}
use Rattle.stream_packets.specs.Sent.{AreFrames, IsSent}
use Rattle.block_image.specs.Sizes.{IsPayloadSize}
use Rattle.block_image.specs.Infos.{frame_info}
use Rattle.block_image.specs.Kept.{kept}
use Rattle.block_image.specs.Image.{covers, image}
use Rattle.block_image.specs.AllPackets.{HasAllPackets}

-- Packets of p bytes at most that a camera with these frames may have sent.
pub record AreSent (frames : ℕ → Option Frame) (p : ℕ) (xs : List StreamPacket) : Type 0 where
  pub are_frames : AreFrames frames
  pub payload_size : IsPayloadSize p
  pub sent : All (IsSent frames p) xs

-- The first bytes of the filling, as many as its record says, are the frame of block b, and the image that it
-- tells is the frame's.
pub record HoldsFrame (frames : ℕ → Option Frame) (b : ℕ) (filling : Filling) : Type 0 where
  pub frame : Frame
  pub of_block : frames b ≡ Some frame
  pub data_len : filling.rec.data_len ≡ length frame.pixels
  pub pixels : take filling.rec.data_len filling.bytes ≡ frame.pixels
  pub image : filling.rec.image ≡ Some (frame_info frame frame.rows)

-- the bytes of a payload are those of block b's frame at its place
pub record IsPieceOfFrame (frames : ℕ → Option Frame) (p b : ℕ) (h : Head) (d : List ℕ) : Type 0 where
  pub frame : Frame
  pub of_block : frames b ≡ Some frame
  pub within : payload_start p h.id + length d ≤ length frame.pixels
  pub bytes : (i : ℕ) → i < length d → slice_index d i ≡ slice_index frame.pixels (payload_start p h.id + i)

-- Each byte of a kept payload that lies inside the buffer stands at its place, and is the frame's byte
-- there. All else is 0.
pub record HasBytesInPlace (frames : ℕ → Option Frame) (p b size : ℕ) (ks : List StreamPacket) (bytes : List ℕ) : Type 0 where
  pub len : length bytes ≡ size
  pub in_place :
      (h : Head) (d : List ℕ) (i : ℕ) → Contains ks (payload h d) → i < length d → payload_start p h.id + i < size
      → slice_index bytes (payload_start p h.id + i) ≡ slice_index d i
  pub of_frame : (h : Head) (d : List ℕ) → Contains ks (payload h d) → IsPieceOfFrame frames p b h d
  pub elsewhere :
      (j : ℕ) → j < size
      → ((h : Head) (d : List ℕ) → Contains ks (payload h d) → covers (payload_start p h.id) (length d) j ≡ false)
      → slice_index bytes j ≡ 0

-- an image that is marked complete is its block's frame
abbrev pub CompleteIsFrame : Type 0
CompleteIsFrame =
    (frames : ℕ → Option Frame) (p b size : ℕ) (xs : List StreamPacket) → AreSent frames p xs
    → (image p b size xs).rec.complete ≡ true → HoldsFrame frames b (image p b size xs)

-- in every image, complete or not, each received byte is in place
abbrev pub BytesAreInPlace : Type 0
BytesAreInPlace =
    (frames : ℕ → Option Frame) (p b size : ℕ) (xs : List StreamPacket) → AreSent frames p xs
    → HasBytesInPlace frames p b size (kept p b xs) (image p b size xs).bytes

-- a block in a large enough buffer whose packets all came is complete
abbrev pub AllPacketsComplete : Type 0
AllPacketsComplete =
    (frames : ℕ → Option Frame) (p b size : ℕ) (xs : List StreamPacket) (frame : Frame) → AreSent frames p xs
    → frames b ≡ Some frame → length frame.pixels ≤ size → HasAllPackets frame p xs
    → (image p b size xs).rec.complete ≡ true
