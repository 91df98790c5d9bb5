-- The digits of a datagram.
use Rattle.std.proofs.Common.{◌≡◌, ℕ, suc, ◌<◌, ◌≤◌, List, [], ◌∷◌, length, get_or, sym, subst, arith}
use Rattle.std.specs.List.{AllByRecursion}
use Rattle.hex.specs.Hex.{encode_lower}
use Rattle.gev_script.specs.Spelling.{IsDatagram}
use Rattle.gev_record.proofs.LinesFit.{is_datagram}

all_small : (bytes : List ℕ) → ((i : ℕ) → get_or bytes i 0 < 256) → AllByRecursion (λ b. b < 256) bytes
all_small [] small = tt
all_small (b ∷ bytes) small = (small 0, all_small bytes (λ i. small (suc i)))

fits_some : (bytes : List ℕ) → ((i : ℕ) → get_or bytes i 0 < 256) → 1 ≤ length bytes → length bytes ≤ 1600 → IsDatagram (encode_lower bytes)
fits_some [] small some short = absurd (omega arith)
fits_some (b ∷ bytes) small some short = is_datagram b bytes (all_small (b ∷ bytes) small) short

pub fits : (bytes digits : List ℕ) → ((i : ℕ) → get_or bytes i 0 < 256) → 1 ≤ length bytes → length bytes ≤ 1600 → digits ≡ encode_lower bytes → IsDatagram digits
fits bytes digits small some short is = subst IsDatagram (sym is) (fits_some bytes small some short)
