-- How the payloads of a frame divide its bytes.
use Rattle.std.proofs.Common.{◌≡◌, ◌⊎◌, inl, inr, ℕ, ◌+◌, ◌-◌, ◌*◌, ◌/◌, ◌^◌, ◌<◌, ◌≤◌, min, List, length, get_or, drop, true, ap, ◌∙◌, arith}
use Rattle.std.specs.Prelude.{◌==◌, nat_lt, nat_le}
use Rattle.std.proofs.Math.Nat.{mul-le-mul_left}
use Rattle.std.proofs.lemmas.Bool.{le-leb, lt-ltb, le-ltb, eq-eqb, cond-true, cond-false, cases_lt}
use Rattle.std.proofs.lemmas.List.{length-take, length-drop, get_or-take, get_or-drop}
use Rattle.stream_packets.specs.FramePackets.{payload_count, payload_start, payload_bytes}
use Rattle.block_image.specs.Image.{is_long_enough}

-- as many payloads as there are, and no more, hold the bytes
count_high : (p len : ℕ) → 1 ≤ p → len ≤ p * payload_count p len
count_high p len some = omega arith

count_low : (p len : ℕ) → 1 ≤ p → p * payload_count p len < len + p
count_low p len some = omega arith

next_multiple : (p m : ℕ) → m * p + p ≡ p * (m + 1)
next_multiple p m = omega arith

start_next : (p k : ℕ) → 1 ≤ k → payload_start p k + p ≡ p * k
start_next p k one = let same : k - 1 + 1 ≡ k = omega arith in next_multiple p (k - 1) ∙ ap (λ i. p * i) same

-- position j lies in payload j / p + 1
pub payload_at : (p len j : ℕ) → 1 ≤ p → j < len → j / p + 1 ≤ payload_count p len
payload_at p len j some inside = go (cases_lt (j / p) (payload_count p len)) where
  go : (j / p < payload_count p len) ⊎ (payload_count p len ≤ j / p) → j / p + 1 ≤ payload_count p len
  go (inl less) = omega arith
  go (inr more) =
      let product : p * payload_count p len ≤ p * (j / p) = mul-le-mul_left p more in
      absurd (omega (arith, count_high p len some, product))

pub start_at : (p j : ℕ) → 1 ≤ p → (payload_start p (j / p + 1) ≤ j) × (j < payload_start p (j / p + 1) + p)
start_at p j some =
    let same : payload_start p (j / p + 1) + p ≡ p * (j / p + 1) = start_next p (j / p + 1) (omega arith) in
    (omega arith, omega arith)

-- an early payload is full
full_before : (p len k : ℕ) → 1 ≤ p → 1 ≤ k → k < payload_count p len → payload_start p k + p ≤ len
full_before p len k some one less =
    let product : p * (k + 1) ≤ p * payload_count p len = mul-le-mul_left p (omega arith) in
    omega (arith, count_low p len some, product, start_next p k one)

-- the last payload has all that remains
rest_at_last : (p len k : ℕ) → 1 ≤ p → 1 ≤ k → payload_count p len ≤ k → len ≤ payload_start p k + p
rest_at_last p len k some one more =
    let product : p * payload_count p len ≤ p * k = mul-le-mul_left p more in
    omega (arith, count_high p len some, product, start_next p k one)

pub start_within : (p len k : ℕ) → 1 ≤ p → 1 ≤ k → k ≤ payload_count p len → payload_start p k ≤ len
start_within p len k some one top =
    let product : p * k ≤ p * payload_count p len = mul-le-mul_left p top in
    omega (arith, count_low p len some, product, start_next p k one)

pub length-payload_bytes : (p : ℕ) (pixels : List ℕ) (k : ℕ) → length (payload_bytes p pixels k) ≡ min p (length pixels - payload_start p k)
length-payload_bytes p pixels k = length-take p (drop (payload_start p k) pixels) ∙ ap (λ n. min p n) (length-drop (payload_start p k) pixels)

pub get_or-payload_bytes : (p : ℕ) (pixels : List ℕ) (k i : ℕ) → i < length (payload_bytes p pixels k) → get_or (payload_bytes p pixels k) i 0 ≡ get_or pixels (payload_start p k + i) 0
get_or-payload_bytes p pixels k i inside =
    let below : i < p = omega (arith, length-payload_bytes p pixels k) in
    get_or-take p (drop (payload_start p k) pixels) i 0 below ∙ get_or-drop (payload_start p k) pixels i 0

-- each payload of a frame is as long as it has to be
pub is_long_enough-payload_bytes : (p : ℕ) (pixels : List ℕ) (k : ℕ) → 1 ≤ p → 1 ≤ k → is_long_enough p (length pixels) k (length (payload_bytes p pixels k)) ≡ true
is_long_enough-payload_bytes p pixels k some one = go (cases_lt k (payload_count p (length pixels))) where
  go : (k < payload_count p (length pixels)) ⊎ (payload_count p (length pixels) ≤ k) → is_long_enough p (length pixels) k (length (payload_bytes p pixels k)) ≡ true
  go (inl less) =
      cond-true (nat_lt k (payload_count p (length pixels))) (length (payload_bytes p pixels k) == p) (nat_le (length pixels - payload_start p k) (length (payload_bytes p pixels k))) (lt-ltb k (payload_count p (length pixels)) less)
      ∙ eq-eqb (length (payload_bytes p pixels k)) p (omega (arith, length-payload_bytes p pixels k, full_before p (length pixels) k some one less))
  go (inr more) =
      cond-false (nat_lt k (payload_count p (length pixels))) (length (payload_bytes p pixels k) == p) (nat_le (length pixels - payload_start p k) (length (payload_bytes p pixels k))) (le-ltb k (payload_count p (length pixels)) more)
      ∙ le-leb (length pixels - payload_start p k) (length (payload_bytes p pixels k)) (omega (arith, length-payload_bytes p pixels k, rest_at_last p (length pixels) k some one more))

-- The last id of a frame fits.
pub count_fits : (p len : ℕ) → 528 ≤ p → len ≤ 2 ^ 26 → payload_count p len + 1 ≤ 131073
count_fits p len wide small = go (cases_lt 131072 (payload_count p len)) where
  go : (131072 < payload_count p len) ⊎ (payload_count p len ≤ 131072) → payload_count p len + 1 ≤ 131073
  go (inl more) =
      let product : p * 131073 ≤ p * payload_count p len = mul-le-mul_left p (omega arith) in
      absurd (omega (arith, count_low p len (omega arith), product))
  go (inr less) = omega arith
