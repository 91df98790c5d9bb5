-- Images of fewer lines.
use Rattle.std.proofs.Common.{◌≡◌, ℕ, zero, suc, sym, zero-mul, ◌+◌, ◌*◌, ◌/◌, ◌<◌, ◌≤◌, arith}
use Rattle.std.proofs.Math.Nat.{mul-le-mul_left, mul-le-mul_right}
use Rattle.gev_types.specs.FrameSize.{bits_per_pixel, image_size, FewerLines}

-- Fewer lines make no larger image.
pub image_size-mono : (pixel x y px py rows : ℕ) → rows ≤ y → image_size pixel x rows px py ≤ image_size pixel x y px py
image_size-mono pixel x y px py rows fewer =
    omega (arith, mul-le-mul_right (bits_per_pixel pixel) (mul-le-mul_left x fewer), mul-le-mul_left px fewer)

-- numbers of which the bits of a line are a product: without a bit in one line there is none in all
lines_some : (line px y rows py : ℕ) → 1 ≤ rows → 0 < (line * y + 7) / 8 + px * y + py → 0 < (line * rows + 7) / 8 + px * rows + py
lines_some zero zero y rows py one some = omega (arith, zero-mul y, zero-mul rows, some)
lines_some (suc line) px y rows py one some = omega (arith, mul-le-mul_left (suc line) one)
lines_some zero (suc px) y rows py one some = omega (arith, mul-le-mul_left (suc px) one)

-- An image of some bytes has some in its first line, or after its last.
pub image_size-some : (pixel x y px py rows : ℕ) → 1 ≤ rows → 0 < image_size pixel x y px py → 0 < image_size pixel x rows px py
image_size-some pixel x y px py rows one some =
    let b = bits_per_pixel pixel in
    let turn : (n : ℕ) → x * n * b ≡ x * b * n = λ n. omega arith in
    rw (turn rows) (lines_some (x * b) px y rows py one (rw (sym (turn y)) some))

pub fewer_lines : (pixel x y px py rows : ℕ) → rows ≤ y → FewerLines pixel x y px py rows
fewer_lines pixel x y px py rows fewer =
    let small = image_size-mono pixel x y px py rows fewer in
    record { no_larger = small; in_limits = λ one fits. (image_size-some pixel x y px py rows one fits.0, omega (arith, small, fits.1)) }
