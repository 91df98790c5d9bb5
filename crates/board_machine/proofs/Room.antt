-- A list with each of n places at most once has at most n members.
use Rattle.std.proofs.Common.{◌≡◌, ◌≢◌, ℕ, zero, suc, ◌+◌, ◌≤◌, ◌<◌, ◌==◌, nat_le, List, [], ◌∷◌, length, refl, ap, inl, inr, ◌⊎◌, arith}
use Rattle.std.proofs.lemmas.Bool.{cond_both, cases_eq, cases_lt, eqb-false}
use Rattle.gev_types.specs.Limits.{place_count}
use Rattle.board_machine.specs.Places.{same, times, put_in, without}
use Rattle.board_machine.proofs.Places.{same_self, same_other, same_le, times-put, times-without, times-without-le}
use Rattle.board_machine.specs.Machine.{Board, word_at, hand, places}
use Rattle.board_machine.specs.Owners.{tally, IsCounted}
use Rattle.board_machine.proofs.Boards.{in_hand_of-le}
use Rattle.board_machine.proofs.Counts.{due_le, stands_below}

pub length-put : (i : ℕ) (xs : List ℕ) → length (put_in i xs) ≡ length xs + 1
length-put i [] = refl
length-put i (x ∷ xs) =
    cond_both (nat_le i x) (i ∷ x ∷ xs) (x ∷ put_in i xs) (λ ys. length ys ≡ length (x ∷ xs) + 1)
    (λ e. omega arith)
    (λ e. omega (arith, length-put i xs))

pub length-without : (i : ℕ) (xs : List ℕ) → 1 ≤ times i xs → length (without i xs) + 1 ≡ length xs
length-without i [] some = absurd (omega arith)
length-without i (x ∷ xs) some =
    cond_both (i == x) xs (x ∷ without i xs) (λ ys. length ys + 1 ≡ length (x ∷ xs))
    (λ e. omega arith)
    (λ e. let none : same i x ≡ 0 = same_other i x (eqb-false i x e) in
    let more : 1 ≤ times i xs = omega arith in
    omega (arith, length-without i xs more))

-- each place at most once, and none from n on
pub record IsFew (n : ℕ) (xs : List ℕ) : Type 0 where
  pub once : (i : ℕ) → times i xs ≤ 1
  pub below : (i : ℕ) → 1 ≤ times i xs → i < n

few_less : (n : ℕ) (xs : List ℕ) → IsFew (suc n) xs → times n xs ≡ 0 → IsFew n xs
few_less n xs few none = record { once = few.once; below = λ i some. go i some (cases_eq i n) }
  where
    go : (i : ℕ) → 1 ≤ times i xs → (i ≡ n) ⊎ (i ≢ n) → i < n
    go i some (inl e) = let equal : times i xs ≡ times n xs = ap (λ j. times j xs) e in absurd (omega (arith, some, none))
    go i some (inr apart) = omega (arith, few.below i some, apart)

few_without : (n : ℕ) (xs : List ℕ) → IsFew (suc n) xs → 1 ≤ times n xs → IsFew n (without n xs)
few_without n xs few some =
    few_less n (without n xs)
    (record {
      once = λ i. omega (arith, few.once i, times-without-le i n xs);
      below = λ i h. few.below i (omega (arith, h, times-without-le i n xs));
    })
    (omega (arith, times-without n n xs some, same_self n, few.once n))

pub few_length : (n : ℕ) (xs : List ℕ) → IsFew n xs → length xs ≤ n
few_length zero [] few = omega arith
few_length zero (x ∷ xs) few = absurd (omega (arith, few.below x (omega (arith, same_self x))))
few_length (suc n) xs few = go (λ ys few. few_length n ys few) (cases_lt 0 (times n xs))
  where
    go : ((ys : List ℕ) → IsFew n ys → length ys ≤ n) → (0 < times n xs) ⊎ (times n xs ≤ 0) → length xs ≤ suc n
    go short (inl some) = omega (arith, short (without n xs) (few_without n xs few (omega arith)), length-without n xs (omega arith))
    go short (inr none) = omega (arith, short xs (few_less n xs few (omega arith)))

-- where one place is missing, there is room for it
pub has_room : (n m : ℕ) (xs : List ℕ) → IsFew n xs → m < n → times m xs ≡ 0 → length xs < n
has_room n m xs few below none = omega (arith, few_length n (put_in m xs) more, length-put m xs)
  where
    more : IsFew n (put_in m xs)
    more = record {
      once = λ i. once_more i (cases_eq i m);
      below = λ i h. below_more i h (cases_eq i m);
    }
      where
        once_more : (i : ℕ) → (i ≡ m) ⊎ (i ≢ m) → times i (put_in m xs) ≤ 1
        once_more i (inl e) =
            let equal : times i xs ≡ times m xs = ap (λ j. times j xs) e in
            omega (arith, times-put i m xs, same_le i m, none)
        once_more i (inr apart) = omega (arith, times-put i m xs, same_other i m apart, few.once i)

        below_more : (i : ℕ) → 1 ≤ times i (put_in m xs) → (i ≡ m) ⊎ (i ≢ m) → i < n
        below_more i h (inl e) = omega (arith, e, below)
        below_more i h (inr apart) =
            let some : 1 ≤ times i xs = omega (arith, h, times-put i m xs, same_other i m apart) in
            few.below i some

tally_few : (b : Board) (xs : List ℕ) → IsCounted b → ((i : ℕ) → times i xs ≤ tally b i) → IsFew place_count xs
tally_few b xs owned within = record {
  once = λ i. omega (arith, within i, owned.once i, due_le (word_at b i).state);
  below = λ i some. stands_below b i owned (omega (arith, some, within i));
}

-- the pool, the output and each actor's hands have each place at most once
pub pool_few : (b : Board) → IsCounted b → IsFew place_count b.pool
pool_few b owned = tally_few b b.pool owned (λ i. omega arith)

pub out_few : (b : Board) → IsCounted b → IsFew place_count (places b.out)
out_few b owned = tally_few b (places b.out) owned (λ i. omega arith)

pub hand_few : (b : Board) (k : ℕ) → IsCounted b → IsFew place_count (hand b k)
hand_few b k owned = tally_few b (hand b k) owned (λ i. omega (arith, in_hand_of-le i b.hands k))
