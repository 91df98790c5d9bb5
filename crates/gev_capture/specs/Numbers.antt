-- Numbers in the bytes of a capture's file, in the byte order that the file tells.
use Rattle.std.specs.Prelude.{ℕ, List, drop}
use Rattle.byteorder.specs.Endian.{big_number, little_number}
use Rattle.gev_capture.specs.declared.order.Order.{Order}
use Rattle.gev_capture.specs.declared.order.Order.TheVariants.{Big, Little}

-- the number in the bytes of this width from a place on
unfoldable pub number : Order → ℕ → ℕ → List ℕ → ℕ
number Big place width bytes = big_number width (drop place bytes)
number Little place width bytes = little_number width (drop place bytes)
