-- What a datagram is widened to has bytes.
use Rattle.std.proofs.Common.{ℕ, zero, suc, ◌+◌, ◌^◌, ◌%◌, ◌<◌, ◌==◌, List, [], ◌∷◌, length, Bool, true, false, if◌then◌else◌, arith}
use Rattle.std.specs.Prelude.{nat_lt, drop, slice_index, Option, Some, None, Result, Ok, Err}
use Rattle.std.specs.Int.{byte_at, bytes_high_first}
use Rattle.gvsp_wire.specs.Wire.{header_fields}
use Rattle.gvsp_wire.specs.Reading.{is_extended}
use Rattle.wire_fields.specs.Fields.{number_at, spelled}
use Rattle.gvsp_std.specs.declared.std_error.StdError.{StdError}
use Rattle.gvsp_std.specs.declared.std_error.StdError.TheVariants.{Short, Extended, Zero}
use Rattle.gvsp_std.specs.Blocks.{chosen}
use Rattle.gvsp_std.specs.Widening.{wide_header, head_in, wide_in, widened_in, widened}
use Rattle.acquisition_machine.proofs.Order.{all_append}
use Rattle.capture_script.proofs.Fitting.{AreSmall, small_drop}

byte_small : (i x : ℕ) → byte_at i x < 256
byte_small zero x = omega arith
byte_small (suc i) x = omega arith

high_small : (n x : ℕ) → AreSmall (bytes_high_first n x)
high_small zero x = tt
high_small (suc n) x = (byte_small n x, high_small n x)

spelled_small : (fields : List (ℕ × ℕ)) → AreSmall (spelled fields)
spelled_small [] = tt
spelled_small (f ∷ fields) = all_append (λ b. b < 256) (bytes_high_first f.0 f.1) (spelled fields) (high_small f.0 f.1) (spelled_small fields)

-- where it is widened
pub data SmallWide : Result (ℕ × List ℕ) StdError → Type 0 where
  taken : (x : ℕ × List ℕ) → AreSmall x.1 → SmallWide (Ok x)
  refused : (e : StdError) → SmallWide (Err e)

wide_if : (b : Bool) (x y : Result (ℕ × List ℕ) StdError) → SmallWide x → SmallWide y → SmallWide (if b then x else y)
wide_if true x y p q = p
wide_if false x y p q = q

header_small : (b : ℕ) (bytes : List ℕ) → AreSmall (wide_header (head_in b bytes) (slice_index bytes 4))
unfolding wide_header
header_small b bytes = spelled_small (header_fields (head_in b bytes) (2 ^ 7 + slice_index bytes 4 % 2 ^ 4) 0)

small_in : (bytes : List ℕ) (o : Option ℕ) → AreSmall bytes → SmallWide (widened_in bytes o)
small_in bytes None all = refused _
small_in bytes (Some b) all =
    taken (b, wide_in b bytes) (all_append (λ b. b < 256) (wide_header (head_in b bytes) (slice_index bytes 4)) (drop 8 bytes) (header_small b bytes) (small_drop 8 bytes all))

pub small_wide : (top : ℕ) (bytes : List ℕ) → AreSmall bytes → SmallWide (widened top bytes)
small_wide top bytes all =
    let chosen_in : Result (ℕ × List ℕ) StdError = widened_in bytes (chosen top (number_at 2 2 bytes)) in
    let zero_or : Result (ℕ × List ℕ) StdError = if number_at 2 2 bytes == 0 then Err Zero else chosen_in in
    let extended_or : Result (ℕ × List ℕ) StdError = if is_extended (slice_index bytes 4) then Err Extended else zero_or in
    wide_if (nat_lt (length bytes) 8) (Err (Short (length bytes))) extended_or (refused (Short (length bytes)))
    (wide_if (is_extended (slice_index bytes 4)) (Err Extended) zero_or (refused Extended)
    (wide_if (number_at 2 2 bytes == 0) (Err Zero) chosen_in (refused Zero) (small_in bytes (chosen top (number_at 2 2 bytes)) all)))
