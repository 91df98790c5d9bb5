-- The pixels of a picture, said of the bytes in the buffer pixel by pixel: where each stands in the text, and where its
-- bytes lie in the image (Pixel Format Naming Convention).
use Rattle.std.specs.Prelude.{◌≡◌, ℕ, zero, suc, ◌+◌, ◌*◌, ◌/◌, ◌%◌, ◌^◌, ◌<◌, min, List, [], ◌∷◌, length, take, drop, slice_index}
use Rattle.byteorder.specs.Endian.{big_bytes}
use Rattle.gev_types.specs.declared.block_record.Record.{Record}
use Rattle.gev_types.specs.declared.image_info.ImageInfo.{ImageInfo}
use Rattle.gev_types.specs.FrameSize.{bits_per_pixel}
use Rattle.frame_pictures.specs.declared.samples.Samples.{Samples}
use Rattle.frame_pictures.specs.declared.samples.Samples.TheVariants.{Grey8, Grey16, Rgb, Bgr, Rgba, Bgra, Yuyv, Uyvy, Packed10, Packed12, Lsb10, Lsb12}
use Rattle.frame_pictures.specs.Pictures.{head_text}

-- how many bytes of the text a pixel is written as
abbrev pub written_bytes : Samples → ℕ
written_bytes Grey8 = 1
written_bytes Yuyv = 1
written_bytes Uyvy = 1
written_bytes Rgb = 3
written_bytes Bgr = 3
written_bytes Rgba = 3
written_bytes Bgra = 3
written_bytes _ = 2

-- bit i of a row, from the least significant of its first byte
abbrev pub row_bit : (ℕ → ℕ) → ℕ → ℕ
row_bit row i = row (i / 8) / 2 ^ (i % 8) % 2

-- the value of so many bits of a row from bit i on, the least significant first
abbrev pub bits_from : (ℕ → ℕ) → ℕ → ℕ → ℕ
bits_from row i zero = 0
bits_from row i (suc n) = row_bit row i + 2 * bits_from row (i + 1) n

-- The first and the second pixel of a pair that has three bytes. Eight bits of each are a byte of its own, the first and
-- the third; its `low` bits stand in the byte between them, from bit 0 and from bit 4 on.
abbrev pub pair_value : ℕ → (ℕ → ℕ) → ℕ → ℕ → ℕ
pair_value low row pair zero = 2 ^ low * row (3 * pair) + bits_from row (8 * (3 * pair + 1)) low
pair_value low row pair (suc n) = 2 ^ low * row (3 * pair + 2) + bits_from row (8 * (3 * pair + 1) + 4) low

-- Pixel x of a row as it's written, by the bytes of the row. Of 16 bits the least significant byte comes first in the row
-- and last in the text, and a value above the greatest is written as the greatest. Alpha and colour differences aren't
-- written. In the formats whose names end in `p` the bits of the pixels follow one another through the bytes of the row.
abbrev pub pixel_in : Samples → (ℕ → ℕ) → ℕ → List ℕ
pixel_in Grey8 row x = row x ∷ []
pixel_in (Grey16 greatest) row x = big_bytes 2 (min (row (2 * x) + 256 * row (2 * x + 1)) greatest)
pixel_in Rgb row x = row (3 * x) ∷ row (3 * x + 1) ∷ row (3 * x + 2) ∷ []
pixel_in Bgr row x = row (3 * x + 2) ∷ row (3 * x + 1) ∷ row (3 * x) ∷ []
pixel_in Rgba row x = row (4 * x) ∷ row (4 * x + 1) ∷ row (4 * x + 2) ∷ []
pixel_in Bgra row x = row (4 * x + 2) ∷ row (4 * x + 1) ∷ row (4 * x) ∷ []
pixel_in Yuyv row x = row (2 * x) ∷ []
pixel_in Uyvy row x = row (2 * x + 1) ∷ []
pixel_in Packed10 row x = big_bytes 2 (pair_value 2 row (x / 2) (x % 2))
pixel_in Packed12 row x = big_bytes 2 (pair_value 4 row (x / 2) (x % 2))
pixel_in Lsb10 row x = big_bytes 2 (bits_from row (10 * x) 10)
pixel_in Lsb12 row x = big_bytes 2 (bits_from row (12 * x) 12)

-- The byte at position i of row y. A row takes as many bits as its pixels do, and has its padding behind it.
abbrev pub row_byte : ImageInfo → List ℕ → ℕ → ℕ → ℕ
row_byte info image y i = slice_index image (y * (info.size_x * bits_per_pixel info.pixel / 8 + info.padding_x) + i)

-- Behind its head, by this record, the text has as many pixels as the image, row by row from the top, and nothing else.
pub record ShowsPixels (s : Samples) (rec : Record) (info : ImageInfo) (image text : List ℕ) : Type 0 where
  pub long : length text ≡ length (head_text s rec info) + info.rows * info.size_x * written_bytes s
  pub head : take (length (head_text s rec info)) text ≡ head_text s rec info
  pub pixels :
      (x y : ℕ) → x < info.size_x → y < info.rows
      → take (written_bytes s) (drop (length (head_text s rec info) + (y * info.size_x + x) * written_bytes s) text)
      ≡ pixel_in s (row_byte info image y) x
