-- The pool's word and the rising list of its places.
use Rattle.std.proofs.Common.{◌≡◌, ◌≢◌, ◌⊎◌, ℕ, ◌+◌, ◌^◌, ◌<◌, ◌≤◌, List, [], ◌∷◌, ◌++◌, refl, sym, ap, ◌∙◌, inl, inr, arith}
use Rattle.std.proofs.lemmas.Bool.{cases_eq, cases_lt}
use Rattle.std.proofs.Math.Pow.{pow-lt}
use Rattle.std.proofs.lemmas.Nat.{or_lt, xor_lt}
use Rattle.std.proofs.lemmas.Nat.Bits.{bit_at-zero, bit_at_or, bit_at_xor, bit_at-pow_same, bit_at-pow_other, bit_at-lt, bit_at_above}
use Rattle.std.specs.Prelude.{bit_or, bit_xor}
use Rattle.std.specs.Int.{bit_at}
use Rattle.board_machine.specs.Places.{same, times, put_in, tail, IsRising}
use Rattle.board_machine.proofs.Places.{same_self, same_other, times-put, times-append}
use Rattle.board_machine.proofs.Rising.{below_all, rising_tail}
use Rattle.buffer_words.specs.Codes.{IsPool}

-- a rising list begins with its lowest member
pub lowest_first : (i : ℕ) (xs : List ℕ) → IsRising xs → 1 ≤ times i xs → ((j : ℕ) → j < i → times j xs ≡ 0) → xs ≡ i ∷ tail xs
lowest_first i [] rising some below = absurd (omega arith)
lowest_first i (x ∷ xs) rising some below = go (cases_eq i x)
  where
    go : (i ≡ x) ⊎ (i ≢ x) → x ∷ xs ≡ i ∷ xs
    go (inl e) = ap (λ y. y ∷ xs) (sym e)
    go (inr ne) =
        let inside : 1 ≤ times i xs = omega (arith, same_other i x ne) in
        let under : x < i = below_all x i xs rising.0 rising.1 inside in
        absurd (omega (arith, below x under, same_self x))

-- a member of a rising list's rest is above the first
above_first : (j x : ℕ) (xs : List ℕ) → IsRising (x ∷ xs) → j < x → times j (x ∷ xs) ≡ 0
above_first j x xs rising under = go (cases_eq (times j xs) 0)
  where
    apart : same j x ≡ 0
    apart = same_other j x (λ e. absurd (omega arith))

    go : (times j xs ≡ 0) ⊎ (times j xs ≢ 0) → same j x + times j xs ≡ 0
    go (inl e) = omega (arith, apart)
    go (inr ne) = absurd (omega (arith, below_all x j xs rising.0 rising.1 (omega arith)))

pub no_places : (xs : List ℕ) → ((i : ℕ) → times i xs ≡ 0) → xs ≡ []
no_places [] none = refl
no_places (x ∷ xs) none = absurd (omega (arith, none x, same_self x))

-- rising lists with the same members are one
pub one_rising : (xs ys : List ℕ) → IsRising xs → IsRising ys → ((i : ℕ) → times i xs ≡ times i ys) → xs ≡ ys
one_rising [] ys rx ry same_times = sym (no_places ys (λ i. sym (same_times i)))
one_rising (x ∷ xs) ys rx ry same_times =
    ap (λ l. x ∷ l) (one_rising xs (tail ys) rx.1 (rising_tail ys ry) rest) ∙ sym first
  where
    first : ys ≡ x ∷ tail ys
    first = lowest_first x ys ry (omega (arith, same_times x, same_self x)) (λ j under. sym (same_times j) ∙ above_first j x xs rx under)

    rest : (i : ℕ) → times i xs ≡ times i (tail ys)
    rest i = omega (arith, same_times i, ap (λ l. times i l) first)

pub one_pool : (n : ℕ) (xs ys : List ℕ) → IsPool n xs → IsPool n ys → IsRising xs → IsRising ys → xs ≡ ys
one_pool n xs ys px py rx ry = one_rising xs ys rx ry (λ i. sym (px.1 i) ∙ py.1 i)

pub empty_pool : (n : ℕ) (xs : List ℕ) → IsPool n xs → n ≡ 0 → xs ≡ []
empty_pool n xs is zero_now = no_places xs (λ i. sym (is.1 i) ∙ (ap (λ m. bit_at m i) zero_now ∙ bit_at-zero i))

-- one more place
pub pool_more : (n i bit : ℕ) (xs : List ℕ) → bit ≡ 2 ^ i → bit < 2 ^ 15 → times i xs ≡ 0 → IsPool n xs → IsPool (bit_or n bit) (put_in i xs)
pool_more n i bit xs is small none pool = (or_lt 15 n bit pool.0 small, λ j. at j (cases_eq j i))
  where
    at : (j : ℕ) → (j ≡ i) ⊎ (j ≢ i) → bit_at (bit_or n bit) j ≡ times j (put_in i xs)
    at j (inl e) =
        let here : bit_at bit j ≡ 1 = ap (λ m. bit_at m j) is ∙ (ap (λ m. bit_at (2 ^ i) m) e ∙ bit_at-pow_same i) in
        let was : bit_at n j ≡ 0 = pool.1 j ∙ (ap (λ m. times m xs) e ∙ none) in
        let now : same j i ≡ 1 = ap (λ m. same m i) e ∙ same_self i in
        omega (arith, bit_at_or n bit j, times-put j i xs, pool.1 j)
    at j (inr ne) =
        let here : bit_at bit j ≡ 0 = ap (λ m. bit_at m j) is ∙ bit_at-pow_other i j ne in
        omega (arith, bit_at_or n bit j, times-put j i xs, pool.1 j, same_other j i ne)

-- without its lowest place
pub pool_less : (n i bit : ℕ) (xs : List ℕ) → bit ≡ 2 ^ i → bit < 2 ^ 15 → xs ≡ i ∷ tail xs → IsPool n xs → IsPool (bit_xor n bit) (tail xs)
pool_less n i bit xs is small first pool = (xor_lt 15 n bit pool.0 small, λ j. at j (cases_eq j i))
  where
    whole : (j : ℕ) → times j xs ≡ same j i + times j (tail xs)
    whole j = ap (λ l. times j l) first

    at : (j : ℕ) → (j ≡ i) ⊎ (j ≢ i) → bit_at (bit_xor n bit) j ≡ times j (tail xs)
    at j (inl e) =
        let here : bit_at bit j ≡ 1 = ap (λ m. bit_at m j) is ∙ (ap (λ m. bit_at (2 ^ i) m) e ∙ bit_at-pow_same i) in
        let now : same j i ≡ 1 = ap (λ m. same m i) e ∙ same_self i in
        let was : bit_at n j ≡ 1 = omega (arith, pool.1 j, whole j, bit_at-lt n j) in
        omega (arith, bit_at_xor n bit j, pool.1 j, whole j)
    at j (inr ne) =
        let here : bit_at bit j ≡ 0 = ap (λ m. bit_at m j) is ∙ bit_at-pow_other i j ne in
        omega (arith, bit_at_xor n bit j, pool.1 j, whole j, same_other j i ne, bit_at-lt n j)

-- a rising list with a member more at its end
pub rising_push : (xs : List ℕ) (i : ℕ) → IsRising xs → ((j : ℕ) → 1 ≤ times j xs → j < i) → IsRising (xs ++ i ∷ [])
rising_push [] i rising under = (tt, tt)
rising_push (x ∷ []) i rising under = (under x (omega (arith, same_self x)), (tt, tt))
rising_push (x ∷ y ∷ xs) i rising under = (rising.0, rising_push (y ∷ xs) i rising.1 (λ j more. under j (omega (arith, more))))

-- the places below k whose bits are set
pub record HasBits (n k : ℕ) (xs : List ℕ) : Type 0 where
  pub rising : IsRising xs
  pub below : (j : ℕ) → j < k → times j xs ≡ bit_at n j
  pub above : (j : ℕ) → k ≤ j → times j xs ≡ 0

pub bits_none : (n : ℕ) → HasBits n 0 []
bits_none n = record { rising = tt; below = λ j lt. absurd (omega arith); above = λ j le. refl }

pub bits_set : (n k : ℕ) (xs : List ℕ) → bit_at n k ≡ 1 → HasBits n k xs → HasBits n (k + 1) (xs ++ k ∷ [])
bits_set n k xs is has = record {
  rising = rising_push xs k has.rising (λ j more. under j more (cases_lt j k));
  below = λ j lt. at j lt (cases_eq j k);
  above = λ j le. omega (arith, has.above j (omega arith), times-append j xs (k ∷ []), same_other j k (λ e. absurd (omega arith)));
}
  where
    under : (j : ℕ) → 1 ≤ times j xs → (j < k) ⊎ (k ≤ j) → j < k
    under j more (inl lt) = lt
    under j more (inr le) = absurd (omega (arith, has.above j le))

    at : (j : ℕ) → j < k + 1 → (j ≡ k) ⊎ (j ≢ k) → times j (xs ++ k ∷ []) ≡ bit_at n j
    at j lt (inl e) =
        let here : same j k ≡ 1 = ap (λ m. same m k) e ∙ same_self k in
        let bit : bit_at n j ≡ 1 = ap (λ m. bit_at n m) e ∙ is in
        omega (arith, has.above j (omega arith), times-append j xs (k ∷ []))
    at j lt (inr ne) =
        let less : j < k = omega (arith, ne) in
        omega (arith, has.below j less, times-append j xs (k ∷ []), same_other j k ne)

pub bits_clear : (n k : ℕ) (xs : List ℕ) → bit_at n k ≢ 1 → HasBits n k xs → HasBits n (k + 1) xs
bits_clear n k xs isnt has = record {
  rising = has.rising;
  below = λ j lt. at j lt (cases_eq j k);
  above = λ j le. has.above j (omega arith);
}
  where
    at : (j : ℕ) → j < k + 1 → (j ≡ k) ⊎ (j ≢ k) → times j xs ≡ bit_at n j
    at j lt (inl e) =
        let bit : bit_at n j ≡ bit_at n k = ap (λ m. bit_at n m) e in
        omega (arith, has.above j (omega arith), bit_at-lt n k)
    at j lt (inr ne) = let less : j < k = omega (arith, ne) in has.below j less

pub bits_all : (n k : ℕ) (xs : List ℕ) → n < 2 ^ 15 → k ≡ 15 → HasBits n k xs → IsPool n xs
bits_all n k xs small all has = (small, λ j. at j (cases_lt j 15))
  where
    at : (j : ℕ) → (j < 15) ⊎ (15 ≤ j) → bit_at n j ≡ times j xs
    at j (inl lt) = sym (has.below j (omega (arith, all)))
    at j (inr le) = bit_at_above n 15 j small le ∙ sym (has.above j (omega (arith, all)))

pub bit_small : (i : ℕ) → i < 15 → 2 ^ i < 2 ^ 15
bit_small i lt = pow-lt lt
