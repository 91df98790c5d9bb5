-- A picture as a text: a PNM file in its binary form, of grey pixels a PGM, of colour a PPM.
use Rattle.std.specs.Prelude.{ℕ, zero, suc, ◌+◌, ◌-◌, ◌*◌, ◌/◌, ◌%◌, ◌^◌, ◌==◌, ◌||◌, min, Bool, true, false, List, [], ◌∷◌, ◌++◌, take, drop, slice_index, codes, Option, Some, None, Result, Ok, Err, if◌then◌else◌}
use Rattle.std.specs.List.{concat}
use Rattle.std.specs.Fmt.{decimal}
use Rattle.byteorder.specs.Endian.{big_bytes}
use Rattle.gev_types.specs.declared.block_account.BlockAccount.{BlockAccount}
use Rattle.gev_types.specs.declared.block_record.Record.{Record}
use Rattle.gev_types.specs.declared.image_info.ImageInfo.{ImageInfo}
use Rattle.gev_types.specs.Filling.{Filling}
use Rattle.frame_pictures.specs.declared.no_picture.NoPicture.{NoPicture}
use Rattle.frame_pictures.specs.declared.no_picture.NoPicture.TheVariants.{NoLeader, PixelFormat, NoPixels, PartBytes}
use Rattle.frame_pictures.specs.declared.samples.Samples.{Samples}
use Rattle.frame_pictures.specs.declared.samples.Samples.TheVariants.{Grey8, Grey16, Rgb, Bgr, Rgba, Bgra, Yuyv, Uyvy, Packed10, Packed12, Lsb10, Lsb12}
use Rattle.frame_pictures.specs.Formats.{samples_of, pixel_bits, fills_bytes}

-- ---- the head

abbrev pub magic : Samples → List ℕ
magic Rgb = codes "P6"
magic Bgr = codes "P6"
magic Rgba = codes "P6"
magic Bgra = codes "P6"
magic _ = codes "P5"

abbrev pub greatest_in : Samples → ℕ
greatest_in (Grey16 greatest) = greatest
greatest_in Packed10 = 1023
greatest_in Packed12 = 4095
greatest_in Lsb10 = 1023
greatest_in Lsb12 = 4095
greatest_in _ = 255

abbrev pub flag_digit : Bool → List ℕ
flag_digit false = codes "0"
flag_digit true = codes "1"

-- how many packet ids of the block lack, by its account; 0 of a buffer that no retired block filled
abbrev pub missing_in : Option BlockAccount → ℕ
missing_in None = 0
missing_in (Some account) = account.lost.ids

-- A line of comment, as PNM files may have it: which block it is, whether it's whole, how many of its bytes were placed,
-- how many of its packets are missing, and the camera's time.
abbrev pub comment_text : Record → ImageInfo → List ℕ
comment_text rec info = concat (
    codes "# block=" ∷ decimal rec.block ∷ codes " complete=" ∷ flag_digit rec.complete ∷ codes " filled=" ∷ decimal rec.filled
    ∷ codes " missing=" ∷ decimal (missing_in rec.account) ∷ codes " time=" ∷ decimal info.timestamp ∷ codes "\n" ∷ [])

-- The head of the picture of a buffer with this record, and with this image in it.
abbrev pub head_text : Samples → Record → ImageInfo → List ℕ
head_text s rec info = concat (
    magic s ∷ codes "\n"
    ∷ comment_text rec info
    ∷ decimal info.size_x ∷ codes " " ∷ decimal info.rows ∷ codes "\n"
    ∷ decimal (greatest_in s) ∷ codes "\n" ∷ [])

-- ---- the pixels

-- the byte at position j; a position behind the last byte counts as 0
abbrev pub byte_at : List ℕ → ℕ → ℕ
byte_at bytes j = slice_index bytes j

-- A value of which the eight high bits are a byte of their own, and `low` bits are part of a byte that two pixels share,
-- by the two bytes in which it lies. The first pixel begins with a byte and has the lowest bits of the next; the second
-- begins with bit 4 of that one.
abbrev pub shared_value : ℕ → ℕ → ℕ → ℕ → ℕ
shared_value low first second bit =
    if bit == 0 then 2 ^ low * first + second % 2 ^ low else 2 ^ low * second + first / 2 ^ 4 % 2 ^ low

-- A value of so many bits that begins with this bit of the first byte, low bits first, and goes on in the lowest ones of
-- the second.
abbrev pub running_value : ℕ → ℕ → ℕ → ℕ → ℕ
running_value bits first second bit =
    first / 2 ^ bit % 2 ^ (8 - bit) + 2 ^ (8 - bit) * (second % 2 ^ (bits + bit - 8))

-- The pixel that begins with this bit of byte j, as it's written: a value of more than 8 bits has its most significant
-- byte first there, and one above the greatest is written as the greatest. What isn't a colour or brightness is left out.
abbrev pub text_at : Samples → List ℕ → ℕ → ℕ → List ℕ
text_at Grey8 row j bit = byte_at row j ∷ []
text_at (Grey16 greatest) row j bit = big_bytes 2 (min (byte_at row j + 256 * byte_at row (j + 1)) greatest)
text_at Rgb row j bit = byte_at row j ∷ byte_at row (j + 1) ∷ byte_at row (j + 2) ∷ []
text_at Bgr row j bit = byte_at row (j + 2) ∷ byte_at row (j + 1) ∷ byte_at row j ∷ []
text_at Rgba row j bit = byte_at row j ∷ byte_at row (j + 1) ∷ byte_at row (j + 2) ∷ []
text_at Bgra row j bit = byte_at row (j + 2) ∷ byte_at row (j + 1) ∷ byte_at row j ∷ []
text_at Yuyv row j bit = byte_at row j ∷ []
text_at Uyvy row j bit = byte_at row (j + 1) ∷ []
text_at Packed10 row j bit = big_bytes 2 (shared_value 2 (byte_at row j) (byte_at row (j + 1)) bit)
text_at Packed12 row j bit = big_bytes 2 (shared_value 4 (byte_at row j) (byte_at row (j + 1)) bit)
text_at Lsb10 row j bit = big_bytes 2 (running_value 10 (byte_at row j) (byte_at row (j + 1)) bit)
text_at Lsb12 row j bit = big_bytes 2 (running_value 12 (byte_at row j) (byte_at row (j + 1)) bit)

-- pixel x of the row that begins with these bytes
abbrev pub pixel_text : Samples → List ℕ → ℕ → List ℕ
pixel_text s row x = text_at s row (x * pixel_bits s / 8) (x * pixel_bits s % 8)

-- the first n pixels of the row that begins with these bytes
abbrev pub row_text : Samples → List ℕ → ℕ → List ℕ
row_text s row zero = []
row_text s row (suc n) = row_text s row n ++ pixel_text s row n

-- how many bytes lie between the begin of one row and that of the next
abbrev pub row_step : Samples → ImageInfo → ℕ
row_step s info = info.size_x * pixel_bits s / 8 + info.padding_x

-- the first n rows, from the top
abbrev pub rows_text : Samples → ImageInfo → List ℕ → ℕ → List ℕ
rows_text s info image zero = []
rows_text s info image (suc n) = rows_text s info image n ++ row_text s (drop (n * row_step s info) image) info.size_x

-- ---- the picture

abbrev pub drawing : Samples → Record → ImageInfo → List ℕ → List ℕ
drawing s rec info image = head_text s rec info ++ rows_text s info image info.rows

abbrev pub drawn_as : Option Samples → Record → ImageInfo → List ℕ → Result (List ℕ) NoPicture
drawn_as None rec info image = Err (PixelFormat info.pixel)
drawn_as (Some s) rec info image =
    if info.size_x == 0 || info.rows == 0 then Err NoPixels
    else if fills_bytes s info.size_x then Ok (drawing s rec info image)
    else Err PartBytes

-- the picture of an image of these bytes, with this record told in its head, or why there is none
abbrev pub drawn : Option ImageInfo → Record → List ℕ → Result (List ℕ) NoPicture
drawn None rec image = Err NoLeader
drawn (Some info) rec image = drawn_as (samples_of info.pixel) rec info image

-- The picture in a buffer with this record and these bytes, of which the record says how many are the image's: what lies
-- behind them counts as 0.
abbrev pub picture : Record → List ℕ → Result (List ℕ) NoPicture
picture rec bytes = drawn rec.image rec (take rec.data_len bytes)

-- the picture of what a buffer holds, by its record and its bytes alone
abbrev pub picture_of : Filling → Result (List ℕ) NoPicture
picture_of filling = picture filling.rec filling.bytes
