-- Laws of what a record tells of its image, in words of their own.
use Rattle.std.specs.Prelude.{◌≡◌, ℕ, min, nat_lt, List, Option, Some, is_some}
use Rattle.gev_types.specs.declared.block_record.Record.{Record}
use Rattle.gev_types.specs.declared.frame.Frame.{Frame}
use Rattle.gev_types.specs.declared.image_info.ImageInfo.{ImageInfo}
use Rattle.gev_types.specs.FrameSize.{image_size}
use Rattle.stream_packets.specs.Packets.{StreamPacket}
use Rattle.block_image.specs.KeptFacts.{DoLeadersTellSizes}
use Rattle.block_image.specs.Infos.{IsInfoOf}
use Rattle.block_image.specs.Image.{image}
use Rattle.block_image.specs.OneBlock.{AreSent}

-- the size of such an image, of the lines that it has
abbrev pub info_size : ImageInfo → ℕ
info_size info = image_size info.pixel info.size_x info.rows info.padding_x info.padding_y

-- the record of a buffer of this size says how long such an image is in it, and whether it goes in
pub record TellsLength (size : ℕ) (rec : Record) (info : ImageInfo) : Type 0 where
  pub data_len : rec.data_len ≡ min (info_size info) size
  pub larger : rec.larger ≡ nat_lt size (info_size info)

-- a record's length is that of the image that it tells
abbrev pub RecordsTellTheirLength : Type 0
RecordsTellTheirLength =
    (p b size : ℕ) (xs : List StreamPacket) (info : ImageInfo) → DoLeadersTellSizes xs
    → (image p b size xs).rec.image ≡ Some info → TellsLength size (image p b size xs).rec info

-- Whichever sent packets came, the image that a record tells is that of its own block's frame.
abbrev pub RecordsTellTheirFrame : Type 0
RecordsTellTheirFrame =
    (frames : ℕ → Option Frame) (p b size : ℕ) (xs : List StreamPacket) (frame : Frame) (info : ImageInfo)
    → AreSent frames p xs → frames b ≡ Some frame
    → (image p b size xs).rec.image ≡ Some info → IsInfoOf frame info

-- a record tells an image just where it says that a leader was kept
abbrev pub LeadersTellImages : Type 0
LeadersTellImages =
    (p b size : ℕ) (xs : List StreamPacket) → is_some (image p b size xs).rec.image ≡ (image p b size xs).rec.has_leader
