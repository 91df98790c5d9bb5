-- The laws of the generator and of the frames that it makes.
use Rattle.std.specs.Prelude.{◌≡◌, ℕ, ◌<◌, ◌≤◌, Bool, false, length, slice_index}
use Rattle.gev_types.specs.declared.frame.Shape.{Shape}
use Rattle.gev_types.specs.FrameSize.{IsImageSize, IsFrame}
use Rattle.gev_frames.specs.Generator.{after_draws, drawn_byte, noise}
use Rattle.gev_frames.specs.Frames.{shape_size, frame_of, short_frame_of, camera_frame, MayBeShort}

-- There are as many bytes as were asked for, and byte j is that of the draw after j earlier ones.
pub record AreDraws (count x : ℕ) : Type 0 where
  pub count_is : length (noise count x) ≡ count
  pub byte_is : (j : ℕ) → j < count → slice_index (noise count x) j ≡ drawn_byte (after_draws j x)

-- the frame of a shape that a frame may have is a valid one
abbrev pub MakesFrame : ℕ → ℕ → Shape → Type 0
MakesFrame seed block shape = IsImageSize (shape_size shape) → IsFrame (frame_of seed block shape)

-- So is each part of it of at least one line. With all its lines it is the whole.
pub record MakesShortFrames (seed block : ℕ) (shape : Shape) : Type 0 where
  pub valid : (rows : ℕ) → 1 ≤ rows → rows ≤ shape.size_y → IsImageSize (shape_size shape) → IsFrame (short_frame_of seed block shape rows)
  pub whole : short_frame_of seed block shape shape.size_y ≡ frame_of seed block shape

-- What a camera makes is a valid frame under its own block id; where its images aren't short it is the whole.
pub record MakesCameraFrame (short : Bool) (seed block : ℕ) (shape : Shape) : Type 0 where
  pub valid : IsImageSize (shape_size shape) → MayBeShort short shape → IsFrame (camera_frame short seed block shape)
  pub own_id : (camera_frame short seed block shape).block ≡ block
  pub whole : short ≡ false → camera_frame short seed block shape ≡ frame_of seed block shape
