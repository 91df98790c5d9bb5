-- All payloads are there exactly where as many good ones were counted.
use Rattle.std.proofs.Common.{◌≡◌, ◌⊎◌, inl, inr, ℕ, zero, suc, ◌+◌, ◌<◌, ◌≤◌, List, [], ◌∷◌, ◌++◌, length, Bool, true, false, refl, ap, sym, ◌∙◌, arith}
use Rattle.std.specs.Prelude.{◌&&◌, ◌==◌, nat_le, if◌then◌else◌}
use Rattle.std.proofs.lemmas.Bool.{and_parts, and_from, and_left, and_right, leb-true, le-leb, lt-leb, eq-eqb, ne_eqb, cases_Bool, cases_eq, cases_lt, cases_order, or_parts, or_from}
use Rattle.stream_packets.specs.declared.fields.Head.{Head}
use Rattle.stream_packets.specs.Packets.{StreamPacket, leader, payload, trailer, notice}
use Rattle.block_image.specs.Kept.{has_id}
use Rattle.block_image.specs.Image.{is_long_enough, has_payload, has_payloads}
use Rattle.block_image.specs.KeptFacts.{HasDistinctIds}
use Rattle.block_image.specs.Counting.{good_count}
use Rattle.block_image.proofs.Bools.{and_false, or_false, one_if}

-- whether the payload's id is one of 1 to n, and it is long enough
abbrev is_good : ℕ → ℕ → ℕ → Head → ℕ → Bool
is_good p len n h got = nat_le 1 h.id && nat_le h.id n && is_long_enough p len h.id got

none_below_one : (i : ℕ) (g : Bool) → (nat_le 1 i && nat_le i 0 && g) ≡ false
none_below_one i g = go (cases_Bool (nat_le 1 i && nat_le i 0 && g)) where
  go : ((nat_le 1 i && nat_le i 0 && g) ≡ true) ⊎ ((nat_le 1 i && nat_le i 0 && g) ≡ false) → (nat_le 1 i && nat_le i 0 && g) ≡ false
  go (inl all) =
      let ends = and_parts (nat_le 1 i) (nat_le i 0) (and_parts (nat_le 1 i && nat_le i 0) g all).0 in
      absurd (omega (arith, leb-true 1 i ends.0, leb-true i 0 ends.1))
  go (inr none) = none

pub good_count-zero : (p len : ℕ) (ks : List StreamPacket) → good_count p len 0 ks ≡ 0
good_count-zero p len [] = refl
good_count-zero p len (leader h i ∷ xs) = good_count-zero p len xs
good_count-zero p len (payload h d ∷ xs) =
    let one : one_if (is_good p len 0 h (length d)) ≡ 0 = ap one_if (none_below_one h.id (is_long_enough p len h.id (length d))) in
    omega (arith, one, good_count-zero p len xs)
good_count-zero p len (trailer h y ∷ xs) = good_count-zero p len xs
good_count-zero p len (notice h ∷ xs) = good_count-zero p len xs

-- no payload k where no packet has the id k
pub has_payload-none : (p len k : ℕ) (ks : List StreamPacket) → has_id k ks ≡ false → has_payload p len k ks ≡ false
has_payload-none p len k [] none = refl
has_payload-none p len k (leader h i ∷ xs) none = has_payload-none p len k xs (or_parts (h.id == k) (has_id k xs) none).1
has_payload-none p len k (payload h d ∷ xs) none =
    let parts = or_parts (h.id == k) (has_id k xs) none in
    or_from (h.id == k && is_long_enough p len k (length d)) (has_payload p len k xs)
    (and_left (h.id == k) (is_long_enough p len k (length d)) parts.0) (has_payload-none p len k xs parts.1)
has_payload-none p len k (trailer h y ∷ xs) none = has_payload-none p len k xs (or_parts (h.id == k) (has_id k xs) none).1
has_payload-none p len k (notice h ∷ xs) none = has_payload-none p len k xs (or_parts (h.id == k) (has_id k xs) none).1

-- a payload among 1 to n + 1 has the id n + 1, or is among 1 to n
is_good-suc_last : (p len n : ℕ) (h : Head) (got : ℕ) → h.id ≡ suc n → is_good p len (suc n) h got ≡ is_long_enough p len (suc n) got
is_good-suc_last p len n h got e =
    let low : nat_le 1 h.id ≡ true = le-leb 1 h.id (omega arith) in
    let high : nat_le h.id (suc n) ≡ true = le-leb h.id (suc n) (omega arith) in
    ap (λ c. c && is_long_enough p len h.id got) (and_from (nat_le 1 h.id) (nat_le h.id (suc n)) low high)
    ∙ ap (λ i. is_long_enough p len i got) e

is_good-last : (p len n : ℕ) (h : Head) (got : ℕ) → h.id ≡ suc n → is_good p len n h got ≡ false
is_good-last p len n h got e =
    let high : nat_le h.id n ≡ false = lt-leb h.id n (omega arith) in
    and_left (nat_le 1 h.id && nat_le h.id n) (is_long_enough p len h.id got) (and_right (nat_le 1 h.id) (nat_le h.id n) high)

same_high : (i n : ℕ) → (i ≡ suc n → ⊥) → nat_le i (suc n) ≡ nat_le i n
same_high i n ne = go (cases_lt n i) where
  go : (n < i) ⊎ (i ≤ n) → nat_le i (suc n) ≡ nat_le i n
  go (inl above) = let past : suc n < i = go_past (cases_order i (suc n)) in lt-leb i (suc n) past ∙ sym (lt-leb i n above) where
    go_past : (i ≡ suc n) ⊎ ((i < suc n) ⊎ (suc n < i)) → suc n < i
    go_past (inl e) = absurd (ne e)
    go_past (inr (inl less)) = absurd (omega arith)
    go_past (inr (inr more)) = more
  go (inr below) = le-leb i (suc n) (omega arith) ∙ sym (le-leb i n below)

is_good-other : (p len n : ℕ) (h : Head) (got : ℕ) → (h.id ≡ suc n → ⊥) → is_good p len (suc n) h got ≡ is_good p len n h got
is_good-other p len n h got ne = ap (λ c. nat_le 1 h.id && c && is_long_enough p len h.id got) (same_high h.id n ne)

-- The payload n + 1 adds one, and no more: its id stands once.
pub good_count-suc : (p len n : ℕ) (ks : List StreamPacket) → HasDistinctIds ks → good_count p len (suc n) ks ≡ good_count p len n ks + (if has_payload p len (suc n) ks then 1 else 0)
good_count-suc p len n [] distinct = refl
good_count-suc p len n (leader h i ∷ xs) distinct = good_count-suc p len n xs distinct.1
good_count-suc p len n (payload h d ∷ xs) distinct = go (good_count-suc p len n xs distinct.1) (cases_eq h.id (suc n)) where
  go : good_count p len (suc n) xs ≡ good_count p len n xs + (if has_payload p len (suc n) xs then 1 else 0) → (h.id ≡ suc n) ⊎ (h.id ≡ suc n → ⊥) → good_count p len (suc n) (payload h d ∷ xs) ≡ good_count p len n (payload h d ∷ xs) + (if has_payload p len (suc n) (payload h d ∷ xs) then 1 else 0)
  go rest (inl e) =
      let alone : has_payload p len (suc n) xs ≡ false = has_payload-none p len (suc n) xs (ap (λ k. has_id k xs) (sym e) ∙ distinct.0) in
      rw (is_good-suc_last p len n h (length d) e, is_good-last p len n h (length d) e, eq-eqb h.id (suc n) e, alone, or_false (is_long_enough p len (suc n) (length d)))
      (let same : good_count p len (suc n) xs ≡ good_count p len n xs = omega (arith, rest, ap one_if alone) in omega arith)
  go rest (inr ne) =
      rw (is_good-other p len n h (length d) ne, ne_eqb h.id (suc n) ne) (omega (arith, rest))
good_count-suc p len n (trailer h y ∷ xs) distinct = good_count-suc p len n xs distinct.1
good_count-suc p len n (notice h ∷ xs) distinct = good_count-suc p len n xs distinct.1

count_le : (b : Bool) (g n : ℕ) → g ≤ n → g + (if b then 1 else 0) ≤ suc n
count_le true g n le = omega arith
count_le false g n le = omega arith

pub good_count-le : (p len n : ℕ) (ks : List StreamPacket) → HasDistinctIds ks → good_count p len n ks ≤ n
good_count-le p len zero ks distinct = omega (arith, good_count-zero p len ks)
good_count-le p len (suc n) ks distinct =
    omega (arith, good_count-suc p len n ks distinct, count_le (has_payload p len (suc n) ks) (good_count p len n ks) n (good_count-le p len n ks distinct))

count_all : (b : Bool) (g n : ℕ) → g ≤ n → (g + (if b then 1 else 0) == suc n) ≡ ((g == n) && b)
count_all true g n le = go (cases_eq g n) where
  go : (g ≡ n) ⊎ (g ≡ n → ⊥) → (g + 1 == suc n) ≡ ((g == n) && true)
  go (inl e) = eq-eqb (g + 1) (suc n) (omega arith) ∙ sym (and_from (g == n) true (eq-eqb g n e) refl)
  go (inr ne) = ne_eqb (g + 1) (suc n) (λ e. ne (omega arith)) ∙ sym (and_left (g == n) true (ne_eqb g n ne))
count_all false g n le = ne_eqb (g + 0) (suc n) (λ e. omega arith) ∙ sym (and_false (g == n))

-- Among distinct ids, all payloads from 1 to n are there exactly where n good ones are counted.
pub has_payloads-good_count : (p len n : ℕ) (ks : List StreamPacket) → HasDistinctIds ks → has_payloads p len n ks ≡ (good_count p len n ks == n)
has_payloads-good_count p len zero ks distinct = sym (eq-eqb (good_count p len 0 ks) 0 (good_count-zero p len ks))
has_payloads-good_count p len (suc n) ks distinct =
    ap (λ c. c && has_payload p len (suc n) ks) (has_payloads-good_count p len n ks distinct)
    ∙ sym (count_all (has_payload p len (suc n) ks) (good_count p len n ks) n (good_count-le p len n ks distinct))
    ∙ ap (λ g. g == suc n) (sym (good_count-suc p len n ks distinct))

pub good_count-append : (p len n : ℕ) (xs ys : List StreamPacket) → good_count p len n (xs ++ ys) ≡ good_count p len n xs + good_count p len n ys
good_count-append p len n [] ys = omega arith
good_count-append p len n (leader h i ∷ xs) ys = good_count-append p len n xs ys
good_count-append p len n (payload h d ∷ xs) ys = omega (arith, good_count-append p len n xs ys)
good_count-append p len n (trailer h y ∷ xs) ys = good_count-append p len n xs ys
good_count-append p len n (notice h ∷ xs) ys = good_count-append p len n xs ys

pub good_count-push_payload : (p len n : ℕ) (xs : List StreamPacket) (h : Head) (d : List ℕ) → good_count p len n (xs ++ payload h d ∷ []) ≡ good_count p len n xs + (if nat_le 1 h.id && nat_le h.id n && is_long_enough p len h.id (length d) then 1 else 0)
good_count-push_payload p len n xs h d = omega (arith, good_count-append p len n xs (payload h d ∷ []))
