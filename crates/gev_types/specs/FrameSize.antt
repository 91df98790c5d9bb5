-- The size of an image by the public GVSP standard, over numbers without a bound.
use Rattle.std.specs.Prelude.{◌≡◌, ℕ, ◌+◌, ◌*◌, ◌/◌, ◌%◌, ◌^◌, ◌<◌, ◌≤◌, length}
use Rattle.gev_types.specs.Limits.{max_buffer_size}
use Rattle.gev_types.specs.declared.frame.Frame.{Frame}

-- bits 16 to 23 of a pixel format's code: how many bits one pixel takes
abbrev pub bits_per_pixel : ℕ → ℕ
bits_per_pixel pixel = pixel / 2 ^ 16 % 2 ^ 8

-- the pixels, rounded up to whole bytes, the padding of each line, and the padding at the end
abbrev pub image_size : ℕ → ℕ → ℕ → ℕ → ℕ → ℕ
image_size pixel size_x size_y padding_x padding_y =
    (size_x * size_y * bits_per_pixel pixel + 7) / 8 + padding_x * size_y + padding_y

-- what a frame may have: at least one byte, and no more than 64 MiB
abbrev pub IsImageSize : ℕ → Type 0
IsImageSize size = (0 < size) × (size ≤ max_buffer_size)

-- the size that a frame's leader tells: that of an image of all the lines that it announces
abbrev pub told_size : Frame → ℕ
told_size frame = image_size frame.pixel frame.size_x frame.size_y frame.padding_x frame.padding_y

-- A valid frame has at least one line and no more than it announces, as many bytes as its lines and
-- its other fields say, and a size, both the told one and its own, that a frame may have.
pub record IsFrame (frame : Frame) : Type 0 where
  pub some : 1 ≤ frame.rows
  pub rows : frame.rows ≤ frame.size_y
  pub told : IsImageSize (told_size frame)
  pub size : length frame.pixels ≡ image_size frame.pixel frame.size_x frame.rows frame.padding_x frame.padding_y
  pub in_limits : IsImageSize (length frame.pixels)

-- An image of fewer lines is no larger, and one of at least one line has a size that a frame may have.
pub record FewerLines (pixel size_x size_y padding_x padding_y rows : ℕ) : Type 0 where
  pub no_larger : image_size pixel size_x rows padding_x padding_y ≤ image_size pixel size_x size_y padding_x padding_y
  pub in_limits : 1 ≤ rows → IsImageSize (image_size pixel size_x size_y padding_x padding_y)
      → IsImageSize (image_size pixel size_x rows padding_x padding_y)
