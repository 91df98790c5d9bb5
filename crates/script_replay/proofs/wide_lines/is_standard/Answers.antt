-- Where all tests but the last hold, the last decides: whether the highest bit of the format byte is set.
use Rattle.std.proofs.Common.{◌≡◌, ℕ, ◌/◌, ◌%◌, ◌^◌, ◌<◌, length, Bool, true, false, refl, sym, ◌∙◌, arith}
use Rattle.std.specs.Prelude.{◌==◌, ◌&&◌, not, nat_lt, nat_le, slice_index}
use Rattle.std.proofs.lemmas.Bool.{le-ltb, le-leb, eq-eqb, agree_below_at}
use Rattle.script_replay.proofs.wide_lines.is_standard.Goals as goal

last_of_five : (p q r s t : Bool) → p ≡ true → q ≡ true → r ≡ true → s ≡ false → (p && q && r && not s && t) ≡ t
last_of_five p q r s t first second third fourth = rw (first, second, third, fourth) refl

is_low : (x : ℕ) → x < 256 → nat_lt x 128 ≡ not (x / 2 ^ 7 % 2 == 1)
is_low x fits = agree_below_at (λ (n : ℕ). nat_lt n 128) (λ (n : ℕ). not (n / 2 ^ 7 % 2 == 1)) 256 x refl fits

pub returns-then-bytes-ge-HEADER_SIZE : goal.returns-then-bytes-ge-HEADER_SIZE
returns-then-bytes-ge-HEADER_SIZE c =
    let tests = c.if-bytes-ge-HEADER_SIZE.true in
    let fits : slice_index c.args.bytes.now 4 < 256 = (let byte = c.type_inv.bytes 4 in omega arith) in
    is_low (slice_index c.args.bytes.now 4) fits
    ∙ sym (last_of_five (c.args.version == 2) (c.args.run == 1) (nat_le c.args.top (2 ^ 63)) (nat_lt (length c.args.bytes.now) 8) (not (slice_index c.args.bytes.now 4 / 2 ^ 7 % 2 == 1))
    (eq-eqb c.args.version 2 tests.0) (eq-eqb c.args.run 1 tests.1) (le-leb c.args.top (2 ^ 63) tests.2) (le-ltb (length c.args.bytes.now) 8 tests.3))
