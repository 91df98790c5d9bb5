-- What a picture shows of what its buffer holds, and of its block's frame.
use Rattle.std.specs.Prelude.{◌≡◌, ℕ, ◌<◌, ◌≤◌, List, ◌++◌, length, take, true, false, Option, Some, Result, Ok}
use Rattle.std.specs.List.{Contains}
use Rattle.gev_types.specs.declared.block_record.Record.{Record}
use Rattle.gev_types.specs.declared.frame.Frame.{Frame}
use Rattle.gev_types.specs.declared.image_info.ImageInfo.{ImageInfo}
use Rattle.gev_types.specs.Filling.{Filling}
use Rattle.gev_types.specs.FrameSize.{IsFrame, bits_per_pixel}
use Rattle.stream_packets.specs.declared.fields.Head.{Head}
use Rattle.stream_packets.specs.Packets.{StreamPacket, payload}
use Rattle.stream_packets.specs.FramePackets.{payload_start}
use Rattle.block_image.specs.Infos.{frame_info}
use Rattle.block_image.specs.Image.{covers}
use Rattle.block_image.specs.OneBlock.{HoldsFrame, HasBytesInPlace}
use Rattle.frame_pictures.specs.declared.no_picture.NoPicture.{NoPicture}
use Rattle.frame_pictures.specs.declared.samples.Samples.{Samples}
use Rattle.frame_pictures.specs.declared.samples.Samples.TheVariants.{Grey8}
use Rattle.frame_pictures.specs.Formats.{samples_of, pixel_bits}
use Rattle.frame_pictures.specs.Pictures.{head_text, byte_at, drawn, picture, picture_of}
use Rattle.frame_pictures.specs.Pixels.{ShowsPixels}

-- a pixel that is drawn takes as many bits as its format's code says
abbrev pub PixelsAreAsWideAsTheirFormat : Type 0
PixelsAreAsWideAsTheirFormat = (pixel : ℕ) (s : Samples) → samples_of pixel ≡ Some s → bits_per_pixel pixel ≡ pixel_bits s

-- ---- pixels

-- each picture shows its image's pixels, each in its place, whatever image and bytes these are
abbrev pub PicturesAreTheirPixels : Type 0
PicturesAreTheirPixels =
    (s : Samples) (rec : Record) (info : ImageInfo) (bytes text : List ℕ) → rec.image ≡ Some info → samples_of info.pixel ≡ Some s
    → picture rec bytes ≡ Ok text → ShowsPixels s rec info (take rec.data_len bytes) text

-- ---- frames

-- The picture of a frame, of its own image, with its own rows and all its pixels. Beside these its head tells the record of
-- a buffer.
abbrev pub frame_picture : Record → Frame → Result (List ℕ) NoPicture
frame_picture rec frame = drawn (Some (frame_info frame frame.rows)) rec frame.pixels

-- What follows the head of a picture are just the frame's pixels, where it has no padding and a byte of grey for
-- each pixel.
abbrev pub PlainFramesAreTheirPixels : Type 0
PlainFramesAreTheirPixels =
    (rec : Record) (frame : Frame) → IsFrame frame → frame.padding_x ≡ 0 → frame.padding_y ≡ 0 → samples_of frame.pixel ≡ Some Grey8
    → frame_picture rec frame ≡ Ok (head_text Grey8 rec (frame_info frame frame.rows) ++ frame.pixels)

-- ---- buffers

-- it is the picture of block b's frame, with this record told in its head
pub record ShowsFrame (frames : ℕ → Option Frame) (b : ℕ) (rec : Record) (shown : Result (List ℕ) NoPicture) : Type 0 where
  pub frame : Frame
  pub of_block : frames b ≡ Some frame
  pub same : shown ≡ frame_picture rec frame

-- a picture of a buffer that holds block b's frame is the frame's
abbrev pub HeldFramesAreShown : Type 0
HeldFramesAreShown =
    (frames : ℕ → Option Frame) (b : ℕ) (filling : Filling) → HoldsFrame frames b filling → ShowsFrame frames b filling.rec (picture_of filling)

-- the byte that a picture of the buffer finds at position j
abbrev pub shown_byte : Filling → ℕ → ℕ
shown_byte filling j = byte_at (take filling.rec.data_len filling.bytes) j

-- What a picture shows of the buffer of a block with these kept packets, complete or not: each byte of the image that
-- some kept payload has is the frame's byte at that position, each that none has is 0, and each pixel is these bytes' at
-- its place.
pub record ShowsWhatCame (frame : Frame) (p : ℕ) (ks : List StreamPacket) (filling : Filling) : Type 0 where
  pub came :
      (h : Head) (d : List ℕ) (j : ℕ) → Contains ks (payload h d) → covers (payload_start p h.id) (length d) j ≡ true
      → j < filling.rec.data_len → shown_byte filling j ≡ byte_at frame.pixels j
  pub elsewhere :
      (j : ℕ)
      → ((h : Head) (d : List ℕ) → Contains ks (payload h d) → covers (payload_start p h.id) (length d) j ≡ false)
      → shown_byte filling j ≡ 0
  pub pixels :
      (s : Samples) (info : ImageInfo) (text : List ℕ) → filling.rec.image ≡ Some info → samples_of info.pixel ≡ Some s
      → picture_of filling ≡ Ok text → ShowsPixels s filling.rec info (take filling.rec.data_len filling.bytes) text

-- so it is of each buffer that has the bytes of its block in place
abbrev pub BytesInPlaceAreShown : Type 0
BytesInPlaceAreShown =
    (frames : ℕ → Option Frame) (p b size : ℕ) (ks : List StreamPacket) (filling : Filling) (frame : Frame)
    → HasBytesInPlace frames p b size ks filling.bytes → filling.rec.data_len ≤ size → frames b ≡ Some frame
    → ShowsWhatCame frame p ks filling
