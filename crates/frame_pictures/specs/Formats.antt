-- Which pixel formats are drawn, and how their pixels lie in a buffer (Pixel Format Naming Convention, whose codes
-- GigE Vision uses).
use Rattle.std.specs.Prelude.{ℕ, ◌*◌, ◌/◌, ◌%◌, ◌^◌, ◌==◌, ◌&&◌, ◌||◌, nat_le, Bool, Option, Some, None, if◌then◌else◌}
use Rattle.frame_pictures.specs.declared.samples.Samples.{Samples}
use Rattle.frame_pictures.specs.declared.samples.Samples.TheVariants.{Grey8, Grey16, Rgb, Bgr, Rgba, Bgra, Yuyv, Uyvy, Packed10, Packed12, Lsb10, Lsb12}

-- ---- one channel

-- Mono10, and the four patterns of a Bayer filter with 10 bits
abbrev pub has_ten_bits : ℕ → Bool
has_ten_bits pixel = pixel == 0x01100003 || (nat_le 0x0110000C pixel && nat_le pixel 0x0110000F)

-- Mono12, and the four patterns of a Bayer filter with 12 bits
abbrev pub has_twelve_bits : ℕ → Bool
has_twelve_bits pixel = pixel == 0x01100005 || (nat_le 0x01100010 pixel && nat_le pixel 0x01100013)

-- the greatest value of a pixel of 16 bits; 0x01100025 is Mono14
abbrev pub greatest_of : ℕ → ℕ
greatest_of pixel =
    if has_ten_bits pixel then 1023 else if has_twelve_bits pixel then 4095 else if pixel == 0x01100025 then 16383 else 65535

-- Mono10Packed, and the four patterns of a Bayer filter whose names end in 10Packed
abbrev pub is_ten_packed : ℕ → Bool
is_ten_packed pixel = pixel == 0x010C0004 || (nat_le 0x010C0026 pixel && nat_le pixel 0x010C0029)

-- Mono12Packed, and the four patterns of a Bayer filter whose names end in 12Packed
abbrev pub is_twelve_packed : ℕ → Bool
is_twelve_packed pixel = pixel == 0x010C0006 || (nat_le 0x010C002A pixel && nat_le pixel 0x010C002D)

-- Mono10p, and the patterns BayerBG10p, BayerGB10p, BayerGR10p and BayerRG10p
abbrev pub is_ten_p : ℕ → Bool
is_ten_p pixel =
    pixel == 0x010A0046 || pixel == 0x010A0052 || pixel == 0x010A0054 || pixel == 0x010A0056 || pixel == 0x010A0058

-- Mono12p, and the patterns BayerBG12p, BayerGB12p, BayerGR12p and BayerRG12p
abbrev pub is_twelve_p : ℕ → Bool
is_twelve_p pixel =
    pixel == 0x010C0047 || pixel == 0x010C0053 || pixel == 0x010C0055 || pixel == 0x010C0057 || pixel == 0x010C0059

abbrev pub packed_of : ℕ → Option Samples
packed_of pixel =
    if is_ten_packed pixel then Some Packed10
    else if is_twelve_packed pixel then Some Packed12
    else if is_ten_p pixel then Some Lsb10
    else if is_twelve_p pixel then Some Lsb12
    else None

-- ---- more channels

-- RGB8, BGR8, RGBa8, BGRa8; YUV422_8 and YCbCr422_8, which begin with a brightness; YUV422_8_UYVY, which doesn't
abbrev pub channels_of : ℕ → Option Samples
channels_of pixel =
    if pixel == 0x02180014 then Some Rgb
    else if pixel == 0x02180015 then Some Bgr
    else if pixel == 0x02200016 then Some Rgba
    else if pixel == 0x02200017 then Some Bgra
    else if pixel == 0x02100032 || pixel == 0x0210003B then Some Yuyv
    else if pixel == 0x0210001F then Some Uyvy
    else None

-- The high half of a code says how many channels there are and how many bits a pixel takes: one channel of 8 or 16
-- bits is drawn as grey, whatever it shows. Of the others those above are drawn.
abbrev pub samples_of : ℕ → Option Samples
samples_of pixel =
    if pixel / 2 ^ 16 == 0x0108 then Some Grey8
    else if pixel / 2 ^ 16 == 0x0110 then Some (Grey16 (greatest_of pixel))
    else if pixel / 2 ^ 24 == 2 then channels_of pixel
    else packed_of pixel

-- ---- widths

-- how many bits a pixel takes in its row; of 10Packed two of them are unused
abbrev pub pixel_bits : Samples → ℕ
pixel_bits Grey8 = 8
pixel_bits (Grey16 greatest) = 16
pixel_bits Rgb = 24
pixel_bits Bgr = 24
pixel_bits Rgba = 32
pixel_bits Bgra = 32
pixel_bits Yuyv = 16
pixel_bits Uyvy = 16
pixel_bits Packed10 = 12
pixel_bits Packed12 = 12
pixel_bits Lsb10 = 10
pixel_bits Lsb12 = 12

-- whether a row of so many pixels fills whole bytes
abbrev pub fills_bytes : Samples → ℕ → Bool
fills_bytes s width = width * pixel_bits s % 8 == 0
