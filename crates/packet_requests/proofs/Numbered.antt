-- The numbers of requests.
use Rattle.std.proofs.Common.{◌≡◌, ℕ, ◌%◌, ◌^◌, ◌<◌, ◌≤◌, ◌∙◌, arith}
use Rattle.std.specs.Int.Bits.{or_zero_r}
use Rattle.std.proofs.lemmas.Nat.{le_or_r, or_of_16, or_mod}
use Rattle.packet_requests.specs.Requests.{request_number}
use Rattle.packet_requests.specs.Laws.{HasTheBit}

pub bit_from : (number : ℕ) → 2 ^ 15 ≤ request_number number
bit_from number = le_or_r number 32768

pub has_the_bit : (number : ℕ) → number < 2 ^ 16 → HasTheBit number
has_the_bit number fits =
    let from : 2 ^ 15 ≤ request_number number = bit_from number in
    let below : request_number number < 2 ^ 16 = or_of_16 number 32768 fits (omega arith) in
    let rest : request_number number % 2 ^ 15 ≡ number % 2 ^ 15 = or_mod number 32768 15 ∙ or_zero_r (number % 2 ^ 15) in
    record {
      low = λ small. omega (arith, from, below, rest, small);
      high = λ large. omega (arith, from, below, rest, large, fits);
      from = from;
      fits = below;
    }
