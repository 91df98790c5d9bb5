-- The walks over the options of an interface.
use Rattle.std.proofs.Common.{◌≡◌, ℕ, zero, suc, ◌+◌, ◌<◌, ◌≤◌, List, length, drop, Option, true, false, sym, ◌∙◌, arith}
use Rattle.std.specs.Prelude.{◌||◌, ◌==◌, nat_lt}
use Rattle.std.proofs.lemmas.Bool.{or_parts, cond-true, cond-false, ltb-false}
use Rattle.std.proofs.lemmas.List.{length-drop}
use Rattle.gev_capture.specs.declared.order.Order.{Order}
use Rattle.gev_capture.specs.Numbers.{number}
use Rattle.gev_capture.specs.Files.{option_size, with_option, has_ended, resolution, with_dropped, dropped_in}

-- an option that stands there has its header at least
pub has_header : (order : Order) (bytes : List ℕ) → has_ended order bytes ≡ false → 4 ≤ length bytes
has_header order bytes goes =
    let first = (or_parts (nat_lt (length bytes) 4 || number order 0 2 bytes == 0) (nat_lt (length bytes) (4 + number order 2 2 bytes)) goes).0 in
    ltb-false (length bytes) 4 (or_parts (nat_lt (length bytes) 4) (number order 0 2 bytes == 0) first).0

-- one that tells the resolution has its byte
pub has_value : (order : Order) (bytes : List ℕ) → has_ended order bytes ≡ false → 4 + number order 2 2 bytes ≤ length bytes
has_value order bytes goes =
    ltb-false (length bytes) (4 + number order 2 2 bytes) (or_parts (nat_lt (length bytes) 4 || number order 0 2 bytes == 0) (nat_lt (length bytes) (4 + number order 2 2 bytes)) goes).1

-- so many steps or more tell the same
pub record Steps (order : Order) (r : ℕ) (bytes : List ℕ) (whole : ℕ) : Type 0 where
  pub more : ℕ
  pub enough : length bytes ≤ more
  pub tells : resolution more order r bytes ≡ whole

pub stepped : (order : Order) (r whole more : ℕ) (bytes : List ℕ) → length bytes ≤ more → resolution more order r bytes ≡ whole → has_ended order bytes ≡ false
    → Steps order (with_option order r bytes) (drop (option_size order bytes) bytes) whole
stepped order r whole zero bytes enough e goes = absurd (omega (arith, has_header order bytes goes))
stepped order r whole (suc more) bytes enough e goes = record {
  more = more;
  enough = omega (arith, length-drop (option_size order bytes) bytes, has_header order bytes goes);
  tells = sym (cond-false (has_ended order bytes) r (resolution more order (with_option order r bytes) (drop (option_size order bytes) bytes)) goes) ∙ e;
}

pub ended : (order : Order) (r whole more : ℕ) (bytes : List ℕ) → resolution more order r bytes ≡ whole → has_ended order bytes ≡ true → r ≡ whole
ended order r whole zero bytes e done = e
ended order r whole (suc more) bytes e done =
    sym (cond-true (has_ended order bytes) r (resolution more order (with_option order r bytes) (drop (option_size order bytes) bytes)) done) ∙ e

-- the same of what was dropped
pub record Counts (order : Order) (found : Option ℕ) (bytes : List ℕ) (whole : Option ℕ) : Type 0 where
  pub more : ℕ
  pub enough : length bytes ≤ more
  pub tells : dropped_in more order found bytes ≡ whole

pub counted : (order : Order) (found whole : Option ℕ) (more : ℕ) (bytes : List ℕ) → length bytes ≤ more → dropped_in more order found bytes ≡ whole → has_ended order bytes ≡ false
    → Counts order (with_dropped order found bytes) (drop (option_size order bytes) bytes) whole
counted order found whole zero bytes enough e goes = absurd (omega (arith, has_header order bytes goes))
counted order found whole (suc more) bytes enough e goes = record {
  more = more;
  enough = omega (arith, length-drop (option_size order bytes) bytes, has_header order bytes goes);
  tells = sym (cond-false (has_ended order bytes) found (dropped_in more order (with_dropped order found bytes) (drop (option_size order bytes) bytes)) goes) ∙ e;
}

pub counted_all : (order : Order) (found whole : Option ℕ) (more : ℕ) (bytes : List ℕ) → dropped_in more order found bytes ≡ whole → has_ended order bytes ≡ true → found ≡ whole
counted_all order found whole zero bytes e done = e
counted_all order found whole (suc more) bytes e done =
    sym (cond-true (has_ended order bytes) found (dropped_in more order (with_dropped order found bytes) (drop (option_size order bytes) bytes)) done) ∙ e

pub shorter : (order : Order) (bytes : List ℕ) → has_ended order bytes ≡ false → length (drop (option_size order bytes) bytes) < length bytes
shorter order bytes goes = omega (arith, length-drop (option_size order bytes) bytes, has_header order bytes goes)
