-- The test image of a camera's seed and a block id.
use Rattle.std.specs.Prelude.{ℕ, ◌+◌, ◌-◌, ◌%◌, ◌^◌, ◌≤◌, ◌≡◌, Bool, true, false, take}
use Rattle.gev_types.specs.declared.frame.Frame.{Frame}
use Rattle.gev_types.specs.declared.frame.Shape.{Shape}
use Rattle.gev_types.specs.FrameSize.{image_size}
use Rattle.gev_frames.specs.Generator.{noise}

-- how many bytes so many lines of the shape have, without padding
abbrev pub rows_size : Shape → ℕ → ℕ
rows_size shape rows = image_size shape.pixel shape.size_x rows 0 0

-- how many bytes an image of the shape has, without padding
abbrev pub shape_size : Shape → ℕ
shape_size shape = image_size shape.pixel shape.size_x shape.size_y 0 0

-- The block id is the time too. The bytes are drawn from the sum of seed and block id on, so that no
-- two blocks of a camera begin at the same number.
abbrev pub frame_of : ℕ → ℕ → Shape → Frame
frame_of seed block shape = record {
  block = block;
  timestamp = block;
  pixel = shape.pixel;
  size_x = shape.size_x;
  size_y = shape.size_y;
  rows = shape.size_y;
  offset_x = 0;
  offset_y = 0;
  padding_x = 0;
  padding_y = 0;
  pixels = noise (shape_size shape) ((seed + block) % 2 ^ 64);
}

-- That image, of which only so many lines are there: the leader announces the shape's lines, the pixels
-- end with the last line that is there, and the trailer tells how many there are.
abbrev pub short_frame_of : ℕ → ℕ → Shape → ℕ → Frame
short_frame_of seed block shape rows = record (frame_of seed block shape) {
  rows = rows;
  pixels = take (rows_size shape rows) (frame_of seed block shape).pixels;
}

-- How many lines a camera's image has in a block: all, or where its images are short, up to seven fewer.
abbrev pub rows_of : Bool → ℕ → Shape → ℕ
rows_of true block shape = shape.size_y - block % 8
rows_of false block shape = shape.size_y

-- what such a camera makes
abbrev pub camera_frame : Bool → ℕ → ℕ → Shape → Frame
camera_frame short seed block shape = short_frame_of seed block shape (rows_of short block shape)

-- a shape whose images may be short has lines enough that one is left
abbrev pub MayBeShort : Bool → Shape → Type 0
MayBeShort short shape = short ≡ true → 8 ≤ shape.size_y
