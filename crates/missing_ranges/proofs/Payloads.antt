-- A payload is as long as it has to be where it was kept and isn't short.
use Rattle.std.proofs.Common.{◌≡◌, ◌⊎◌, inl, inr, ℕ, zero, suc, ◌+◌, ◌-◌, ◌*◌, ◌<◌, ◌≤◌, List, [], ◌∷◌, length, Bool, true, false, refl, sym, ◌∙◌, ap, subst, arith}
use Rattle.std.specs.Prelude.{◌==◌, ◌&&◌, ◌||◌, not, nat_lt, nat_le}
use Rattle.std.specs.List.{AllByRecursion}
use Rattle.std.proofs.Math.Nat.{mul-le-mul_left}
use Rattle.std.proofs.lemmas.Bool.{cases_lt, cases_eq, eq-eqb, ne_eqb, lt-ltb, le-ltb, le-leb, lt-leb, cond-true, cond-false, or_parts, or_from, and_left, and_right}
use Rattle.stream_packets.specs.Packets.{StreamPacket, leader, payload, trailer, notice}
use Rattle.stream_packets.specs.FramePackets.{payload_count, payload_start}
use Rattle.block_image.specs.Kept.{has_id}
use Rattle.block_image.specs.KeptFacts.{HasDistinctIds, may_keep, IsKept}
use Rattle.block_image.specs.Image.{is_long_enough, has_payload, has_payloads}
use Rattle.block_image.proofs.Completeness.{has_payload-none}
use Rattle.block_image.proofs.IsKept.{may_keep-payload}
use Rattle.missing_ranges.specs.Reasons.{has_payload_at, has_payloads_to, place_of, is_short_at, has_short_to}

-- how the payloads of an image divide its bytes
count_high : (p len : ℕ) → 1 ≤ p → len ≤ p * payload_count p len
count_high p len some = omega arith

count_low : (p len : ℕ) → 1 ≤ p → p * payload_count p len < len + p
count_low p len some = omega arith

next_multiple : (p m : ℕ) → m * p + p ≡ p * (m + 1)
next_multiple p m = omega arith

start_next : (p k : ℕ) → 1 ≤ k → payload_start p k + p ≡ p * k
start_next p k one = let same : k - 1 + 1 ≡ k = omega arith in next_multiple p (k - 1) ∙ ap (λ i. p * i) same

-- an early payload is full, and the last has all that remains
full_before : (p len k : ℕ) → 1 ≤ p → 1 ≤ k → k < payload_count p len → payload_start p k + p ≤ len
full_before p len k some one less =
    let product : p * (k + 1) ≤ p * payload_count p len = mul-le-mul_left p (omega arith) in
    omega (arith, count_low p len some, product, start_next p k one)

rest_at_last : (p len k : ℕ) → 1 ≤ p → 1 ≤ k → payload_count p len ≤ k → len ≤ payload_start p k + p
rest_at_last p len k some one more =
    let product : p * payload_count p len ≤ p * k = mul-le-mul_left p more in
    omega (arith, count_high p len some, product, start_next p k one)

-- as a number of bytes of which there are p at most
full_is : (got p : ℕ) → got ≤ p → (got == p) ≡ not (nat_lt got p)
full_is got p most = go (cases_lt got p) where
  go : (got < p) ⊎ (p ≤ got) → (got == p) ≡ not (nat_lt got p)
  go (inl less) = rw (ne_eqb got p (λ e. omega arith), lt-ltb got p less) refl
  go (inr full) = rw (eq-eqb got p (omega arith), le-ltb got p full) refl

pub rest_is : (got rest : ℕ) → nat_le rest got ≡ not (nat_lt got rest)
rest_is got rest = go (cases_lt got rest) where
  go : (got < rest) ⊎ (rest ≤ got) → nat_le rest got ≡ not (nat_lt got rest)
  go (inl less) = rw (lt-leb rest got less, lt-ltb got rest less) refl
  go (inr full) = rw (le-leb rest got full, le-ltb got rest full) refl

-- a payload of p bytes at most is as long as it has to be exactly where it fills its place
pub long_is : (p len k got : ℕ) → 1 ≤ p → 1 ≤ k → k ≤ payload_count p len → got ≤ p → is_long_enough p len k got ≡ not (nat_lt got (place_of p len k))
long_is p len k got some one top most = go (cases_lt k (payload_count p len)) where
  go : (k < payload_count p len) ⊎ (payload_count p len ≤ k) → is_long_enough p len k got ≡ not (nat_lt got (place_of p len k))
  go (inl less) =
      let whole : place_of p len k ≡ p = omega (arith, full_before p len k some one less) in
      cond-true (nat_lt k (payload_count p len)) (got == p) (nat_le (len - payload_start p k) got) (lt-ltb k (payload_count p len) less)
      ∙ full_is got p most ∙ ap (λ (n : ℕ). not (nat_lt got n)) (sym whole)
  go (inr more) =
      let rest : place_of p len k ≡ len - payload_start p k = omega (arith, rest_at_last p len k some one more) in
      cond-false (nat_lt k (payload_count p len)) (got == p) (nat_le (len - payload_start p k) got) (le-ltb k (payload_count p len) more)
      ∙ rest_is got (len - payload_start p k) ∙ ap (λ (n : ℕ). not (nat_lt got n)) (sym rest)

-- where no packet has the id, no payload has
pub payload_at-none : (k : ℕ) (ks : List StreamPacket) → has_id k ks ≡ false → has_payload_at k ks ≡ false
payload_at-none k [] none = refl
payload_at-none k (leader h i ∷ xs) none = payload_at-none k xs (or_parts (h.id == k) (has_id k xs) none).1
payload_at-none k (payload h d ∷ xs) none =
    let parts = or_parts (h.id == k) (has_id k xs) none in or_from (h.id == k) (has_payload_at k xs) parts.0 (payload_at-none k xs parts.1)
payload_at-none k (trailer h y ∷ xs) none = payload_at-none k xs (or_parts (h.id == k) (has_id k xs) none).1
payload_at-none k (notice h ∷ xs) none = payload_at-none k xs (or_parts (h.id == k) (has_id k xs) none).1

pub short_at-none : (p len k : ℕ) (ks : List StreamPacket) → has_id k ks ≡ false → is_short_at p len k ks ≡ false
short_at-none p len k [] none = refl
short_at-none p len k (leader h i ∷ xs) none = short_at-none p len k xs (or_parts (h.id == k) (has_id k xs) none).1
short_at-none p len k (payload h d ∷ xs) none =
    let parts = or_parts (h.id == k) (has_id k xs) none in
    or_from (h.id == k && nat_lt (length d) (place_of p len k)) (is_short_at p len k xs)
    (and_left (h.id == k) (nat_lt (length d) (place_of p len k)) parts.0) (short_at-none p len k xs parts.1)
short_at-none p len k (trailer h y ∷ xs) none = short_at-none p len k xs (or_parts (h.id == k) (has_id k xs) none).1
short_at-none p len k (notice h ∷ xs) none = short_at-none p len k xs (or_parts (h.id == k) (has_id k xs) none).1

abbrev MayAll : ℕ → ℕ → List StreamPacket → Type 0
MayAll p b ks = AllByRecursion (λ x. may_keep p b x ≡ true) ks

-- the payload with the id heads the list, or another packet does
here_is : (long short : Bool) → long ≡ not short → (long || false) ≡ (true && not (short || false))
here_is long true e = ap (λ b. b || false) e
here_is long false e = ap (λ b. b || false) e

pub payload_is : (p b len k : ℕ) (ks : List StreamPacket) → 1 ≤ p → 1 ≤ k → k ≤ payload_count p len → MayAll p b ks → HasDistinctIds ks
    → has_payload p len k ks ≡ (has_payload_at k ks && not (is_short_at p len k ks))
payload_is p b len k [] some one top may distinct = refl
payload_is p b len k (leader h i ∷ xs) some one top may distinct = payload_is p b len k xs some one top may.1 distinct.1
payload_is p b len k (payload h d ∷ xs) some one top may distinct = go (cases_eq h.id k) (payload_is p b len k xs some one top may.1 distinct.1) where
  go : (h.id ≡ k) ⊎ (h.id ≡ k → ⊥) → has_payload p len k xs ≡ (has_payload_at k xs && not (is_short_at p len k xs))
      → (h.id == k && is_long_enough p len k (length d) || has_payload p len k xs)
      ≡ ((h.id == k || has_payload_at k xs) && not (h.id == k && nat_lt (length d) (place_of p len k) || is_short_at p len k xs))
  go (inl same) later =
      let alone : has_id k xs ≡ false = subst (λ (i : ℕ). has_id i xs ≡ false) same distinct.0 in
      rw (eq-eqb h.id k same, has_payload-none p len k xs alone, short_at-none p len k xs alone)
      (here_is (is_long_enough p len k (length d)) (nat_lt (length d) (place_of p len k)) (long_is p len k (length d) some one top (may_keep-payload p b h d may.0)))
  go (inr other) later = rw (ne_eqb h.id k other) later
payload_is p b len k (trailer h y ∷ xs) some one top may distinct = payload_is p b len k xs some one top may.1 distinct.1
payload_is p b len k (notice h ∷ xs) some one top may distinct = payload_is p b len k xs some one top may.1 distinct.1

parted : (a s b c : Bool) → ((a && not s) && (b && not c)) ≡ ((a && b) && not (s || c))
parted true true b c = sym (and_right b false refl)
parted true false b c = refl
parted false s b c = refl

pub payloads_are : (p b len n : ℕ) (ks : List StreamPacket) → 1 ≤ p → n ≤ payload_count p len → IsKept p b ks
    → has_payloads p len n ks ≡ (has_payloads_to n ks && not (has_short_to p len n ks))
payloads_are p b len zero ks some top are = refl
payloads_are p b len (suc n) ks some top are =
    ap (λ v. v && has_payload p len (suc n) ks) (payloads_are p b len n ks some (omega arith) are)
    ∙ ap (λ v. (has_payloads_to n ks && not (has_short_to p len n ks)) && v) (payload_is p b len (suc n) ks some (omega arith) top are.of_block are.distinct)
    ∙ parted (has_payloads_to n ks) (has_short_to p len n ks) (has_payload_at (suc n) ks) (is_short_at p len (suc n) ks)
