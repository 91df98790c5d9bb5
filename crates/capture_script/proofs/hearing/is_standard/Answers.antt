-- Where all tests but the last hold, the last decides: whether the highest bit of the format byte is set.
use Rattle.std.proofs.Common.{◌≡◌, ℕ, ◌/◌, ◌%◌, ◌^◌, ◌<◌, length, Bool, true, false, refl, sym, ◌∙◌, arith}
use Rattle.std.specs.Prelude.{◌==◌, ◌&&◌, not, nat_lt, nat_le, slice_index}
use Rattle.std.proofs.lemmas.Bool.{le-ltb, le-leb, agree_below_at}
use Rattle.capture_script.proofs.hearing.is_standard.Goals as goal

last_of_three : (p q r : Bool) → p ≡ true → q ≡ false → (p && not q && r) ≡ r
last_of_three p q r first second = rw (first, second) refl

is_low : (x : ℕ) → x < 256 → nat_lt x 128 ≡ not (x / 2 ^ 7 % 2 == 1)
is_low x fits = agree_below_at (λ (n : ℕ). nat_lt n 128) (λ (n : ℕ). not (n / 2 ^ 7 % 2 == 1)) 256 x refl fits

pub returns-then-bytes-ge-HEADER_SIZE : goal.returns-then-bytes-ge-HEADER_SIZE
returns-then-bytes-ge-HEADER_SIZE c =
    let tests = c.if-bytes-ge-HEADER_SIZE.true in
    let fits : slice_index c.args.bytes.now 4 < 256 = (let byte = c.type_inv.bytes 4 in omega arith) in
    is_low (slice_index c.args.bytes.now 4) fits
    ∙ sym (last_of_three (nat_le c.args.top (2 ^ 63)) (nat_lt (length c.args.bytes.now) 8) (not (slice_index c.args.bytes.now 4 / 2 ^ 7 % 2 == 1))
    (le-leb c.args.top (2 ^ 63) tests.0) (le-ltb (length c.args.bytes.now) 8 tests.1))
