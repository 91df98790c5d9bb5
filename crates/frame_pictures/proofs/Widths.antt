-- How wide pixels are by their format's code.
use Rattle.std.proofs.Common.{◌≡◌, ℕ, ◌/◌, ◌≤◌, true, false, Bool, refl, ap, ◌∙◌, sym, subst, arith}
use Rattle.std.specs.Prelude.{◌==◌, ◌||◌, ◌&&◌, ◌%◌, ◌^◌, nat_le, Option, Some, None, if◌then◌else◌}
use Rattle.std.proofs.lemmas.Bool.{eqb-true, leb-true}
use Rattle.gev_types.specs.FrameSize.{bits_per_pixel}
use Rattle.frame_pictures.specs.declared.samples.Samples.{Samples}
use Rattle.frame_pictures.specs.declared.samples.Samples.TheVariants.{Grey8, Grey16, Rgb, Bgr, Rgba, Bgra, Yuyv, Uyvy, Packed10, Packed12, Lsb10, Lsb12}
use Rattle.frame_pictures.specs.Formats.{greatest_of, is_ten_packed, is_twelve_packed, is_ten_p, is_twelve_p, channels_of, packed_of, pixel_bits}
use Rattle.frame_pictures.specs.Laws.{PixelsAreAsWideAsTheirFormat}

-- ---- tests

either : (a b : Bool) (P : Type 0) → (a ≡ true → P) → (b ≡ true → P) → (a || b) ≡ true → P
either true b P first second e = first refl
either false b P first second e = second e

both : (a b : Bool) → (a && b) ≡ true → (a ≡ true) × (b ≡ true)
both true b e = (refl, e)
both false b e = cc

some_is : (x y : Samples) → Some x ≡ Some y → x ≡ y
some_is x y e = cc

-- what a choice gave by a test, or by what comes behind it
chosen : (b : Bool) (x : Samples) (others : Option Samples) (s : Samples) (P : Samples → Type 0) → (b ≡ true → P x) → (others ≡ Some s → P s)
    → (if b then Some x else others) ≡ Some s → P s
chosen true x others s P first second e = subst P (some_is x s e) (first refl)
chosen false x others s P first second e = second e

-- ---- codes

code_bits : (pixel code bits : ℕ) → bits_per_pixel code ≡ bits → (pixel == code) ≡ true → bits_per_pixel pixel ≡ bits
code_bits pixel code bits is e = ap bits_per_pixel (eqb-true pixel code e) ∙ is

-- codes from one number to another
range_of : (pixel low high : ℕ) → (nat_le low pixel && nat_le pixel high) ≡ true → (low ≤ pixel) × (pixel ≤ high)
range_of pixel low high e = let parts = both (nat_le low pixel) (nat_le pixel high) e in (leb-true low pixel parts.0, leb-true pixel high parts.1)

-- one of five codes
five_bits : (pixel bits a b c d f : ℕ) → bits_per_pixel a ≡ bits → bits_per_pixel b ≡ bits → bits_per_pixel c ≡ bits → bits_per_pixel d ≡ bits → bits_per_pixel f ≡ bits
    → (pixel == a || pixel == b || pixel == c || pixel == d || pixel == f) ≡ true → bits_per_pixel pixel ≡ bits
five_bits pixel bits a b c d f is_a is_b is_c is_d is_f =
    either (pixel == a || pixel == b || pixel == c || pixel == d) (pixel == f) (bits_per_pixel pixel ≡ bits)
    (either (pixel == a || pixel == b || pixel == c) (pixel == d) (bits_per_pixel pixel ≡ bits)
    (either (pixel == a || pixel == b) (pixel == c) (bits_per_pixel pixel ≡ bits)
    (either (pixel == a) (pixel == b) (bits_per_pixel pixel ≡ bits) (code_bits pixel a bits is_a) (code_bits pixel b bits is_b))
    (code_bits pixel c bits is_c))
    (code_bits pixel d bits is_d))
    (code_bits pixel f bits is_f)

ten_packed : (pixel : ℕ) → is_ten_packed pixel ≡ true → bits_per_pixel pixel ≡ 12
ten_packed pixel =
    either (pixel == 0x010C0004) (nat_le 0x010C0026 pixel && nat_le pixel 0x010C0029) (bits_per_pixel pixel ≡ 12)
    (code_bits pixel 0x010C0004 12 refl)
    (λ e. let range = range_of pixel 0x010C0026 0x010C0029 e in omega (arith, range.0, range.1))

twelve_packed : (pixel : ℕ) → is_twelve_packed pixel ≡ true → bits_per_pixel pixel ≡ 12
twelve_packed pixel =
    either (pixel == 0x010C0006) (nat_le 0x010C002A pixel && nat_le pixel 0x010C002D) (bits_per_pixel pixel ≡ 12)
    (code_bits pixel 0x010C0006 12 refl)
    (λ e. let range = range_of pixel 0x010C002A 0x010C002D e in omega (arith, range.0, range.1))

-- ---- formats

-- the pixels are as wide as the code says
abbrev IsWide : ℕ → Samples → Type 0
IsWide pixel s = bits_per_pixel pixel ≡ pixel_bits s

packed_wide : (pixel : ℕ) (s : Samples) → packed_of pixel ≡ Some s → IsWide pixel s
packed_wide pixel s =
    chosen (is_ten_packed pixel) Packed10 (if is_twelve_packed pixel then Some Packed12 else if is_ten_p pixel then Some Lsb10 else if is_twelve_p pixel then Some Lsb12 else None) s (IsWide pixel) (ten_packed pixel)
    (chosen (is_twelve_packed pixel) Packed12 (if is_ten_p pixel then Some Lsb10 else if is_twelve_p pixel then Some Lsb12 else None) s (IsWide pixel) (twelve_packed pixel)
    (chosen (is_ten_p pixel) Lsb10 (if is_twelve_p pixel then Some Lsb12 else None) s (IsWide pixel)
    (five_bits pixel 10 0x010A0046 0x010A0052 0x010A0054 0x010A0056 0x010A0058 refl refl refl refl refl)
    (chosen (is_twelve_p pixel) Lsb12 None s (IsWide pixel)
    (five_bits pixel 12 0x010C0047 0x010C0053 0x010C0055 0x010C0057 0x010C0059 refl refl refl refl refl) (λ e. cc))))

channels_wide : (pixel : ℕ) (s : Samples) → channels_of pixel ≡ Some s → IsWide pixel s
channels_wide pixel s =
    chosen (pixel == 0x02180014) Rgb _ s (IsWide pixel) (code_bits pixel 0x02180014 24 refl)
    (chosen (pixel == 0x02180015) Bgr _ s (IsWide pixel) (code_bits pixel 0x02180015 24 refl)
    (chosen (pixel == 0x02200016) Rgba _ s (IsWide pixel) (code_bits pixel 0x02200016 32 refl)
    (chosen (pixel == 0x02200017) Bgra _ s (IsWide pixel) (code_bits pixel 0x02200017 32 refl)
    (chosen (pixel == 0x02100032 || pixel == 0x0210003B) Yuyv _ s (IsWide pixel)
    (either (pixel == 0x02100032) (pixel == 0x0210003B) (IsWide pixel Yuyv) (code_bits pixel 0x02100032 16 refl) (code_bits pixel 0x0210003B 16 refl))
    (chosen (pixel == 0x0210001F) Uyvy None s (IsWide pixel) (code_bits pixel 0x0210001F 16 refl) (λ e. cc))))))

pub wide_as_format : PixelsAreAsWideAsTheirFormat
wide_as_format pixel s =
    chosen (pixel / 2 ^ 16 == 0x0108) Grey8 _ s (IsWide pixel) (λ e. let high = eqb-true (pixel / 2 ^ 16) 0x0108 e in ap (λ m. m % 2 ^ 8) high)
    (chosen (pixel / 2 ^ 16 == 0x0110) (Grey16 (greatest_of pixel)) _ s (IsWide pixel) (λ e. let high = eqb-true (pixel / 2 ^ 16) 0x0110 e in ap (λ m. m % 2 ^ 8) high)
    (others (pixel / 2 ^ 24 == 2)))
  where
    others : (b : Bool) → (if b then channels_of pixel else packed_of pixel) ≡ Some s → IsWide pixel s
    others true = channels_wide pixel s
    others false = packed_wide pixel s
