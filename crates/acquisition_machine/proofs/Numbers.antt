-- Numbers of requests.
use Rattle.std.proofs.Common.{◌≡◌, ◌⊎◌, inl, inr, ℕ, ◌≤◌, List, [], ◌∷◌, arith}
use Rattle.std.specs.List.{AllByRecursion}
use Rattle.std.proofs.lemmas.Bool.{cases_eq, eq-eqb, ne_eqb}
use Rattle.acquisition_machine.specs.declared.config.AcqConfig.{AcqConfig}
use Rattle.acquisition_machine.specs.Blocks.{Open, ranges_asked}
use Rattle.acquisition_machine.specs.Machine.{next_number, number_after, requests_for, requests_of, number_past}
use Rattle.acquisition_machine.specs.Sound.{IsRequestNumber}
use Rattle.acquisition_machine.proofs.Order.{all_append}

pub next_number-keeps : (n : ℕ) → IsRequestNumber n → IsRequestNumber (next_number n)
next_number-keeps n h = go (cases_eq n 65535) where
  go : (n ≡ 65535) ⊎ (n ≡ 65535 → ⊥) → IsRequestNumber (next_number n)
  go (inl e) = rw (eq-eqb n 65535 e) (record { from_one = omega arith; at_most = omega arith })
  go (inr d) =
      let most : n ≤ 65535 = h.at_most in
      rw (ne_eqb n 65535 d) (record { from_one = omega arith; at_most = omega arith })

pub number_after-keeps : (n : ℕ) (rs : List (ℕ × ℕ)) → IsRequestNumber n → IsRequestNumber (number_after n rs)
number_after-keeps n [] h = h
number_after-keeps n (r ∷ rs) h = number_after-keeps (next_number n) rs (next_number-keeps n h)

pub number_past-keeps : (c : AcqConfig) (now n : ℕ) (os : List Open) → IsRequestNumber n → IsRequestNumber (number_past c now n os)
number_past-keeps c now n [] h = h
number_past-keeps c now n (o ∷ os) h =
    number_past-keeps c now (number_after n (ranges_asked c now o)) os (number_after-keeps n (ranges_asked c now o) h)

-- each request has such a number
pub for_numbered : (n b : ℕ) (rs : List (ℕ × ℕ)) → IsRequestNumber n → AllByRecursion (λ q. IsRequestNumber q.number) (requests_for n b rs)
for_numbered n b [] h = tt
for_numbered n b (r ∷ rs) h = (h, for_numbered (next_number n) b rs (next_number-keeps n h))

pub of_numbered : (c : AcqConfig) (now n : ℕ) (os : List Open) → IsRequestNumber n → AllByRecursion (λ q. IsRequestNumber q.number) (requests_of c now n os)
of_numbered c now n [] h = tt
of_numbered c now n (o ∷ os) h =
    all_append (λ q. IsRequestNumber q.number) (requests_for n o.block (ranges_asked c now o)) (requests_of c now (number_after n (ranges_asked c now o)) os)
    (for_numbered n o.block (ranges_asked c now o) h)
    (of_numbered c now (number_after n (ranges_asked c now o)) os (number_after-keeps n (ranges_asked c now o) h))
